use Rattle.std.proofs.Common.{◌≡◌, ℕ, ◌*◌, cond, List, set, is_ok, sym, ap, ◌∙◌}
use lib.Seq.{paste}
use Rattle.rows.specs.Cells.{write_at, window, around}
use Rattle.codes.specs.Kinds.{link_bytes, link_item}
use Rattle.codes.specs.Packed.{packed}
use Rattle.codes.proofs.Groups.{behind_same}
use Rattle.layers.proofs.links.store_link.Goals as goal

-- equal parts make equal outsides
parts : {O T : Type 0} (o p : O) (f g m n : ℕ) (xs ys : List T) → p ≡ o → g ≡ f → n ≡ m → ys ≡ xs → around p g n ys ≡ around o f m xs
parts o p f g m n xs ys eo ef em ex = cc

pub returns : goal.returns
returns c =
    let from = c.args.from in
    let most = c.args.most in
    let old = c.new-links.result.bytes in
    let new = c.write-answer.new.self.bytes in
    let back = sym (ap (λ s. s.slice) (c.into_row-2.ensures.row ∙ ap (λ w. w.row) c.into_row.ensures.row)) in
    -- what went in
    let old-bytes : old.row.slice.now ≡ c.args.bytes.now = ap (λ w. w.row.slice.now) c.new-links.ensures.row ∙ ap (λ s. s.slice.now) c.new-row.ensures.row ∙ c.new.ensures.cells in
    let old-name : old.row.slice.ghost_name ≡ c.args.bytes.ghost_name = ap (λ w. w.row.slice.ghost_name) c.new-links.ensures.row ∙ ap (λ s. s.slice.ghost_name) c.new-row.ensures.row ∙ c.new.ensures.memory in
    let old-from : old.from ≡ from = ap (λ w. w.from) c.new-links.ensures.row ∙ c.new-row.ensures.from in
    let old-most : old.most ≡ most = ap (λ w. w.most) c.new-links.ensures.row ∙ c.new-row.ensures.most in
    -- what comes out
    let kept = c.write-answer.ensures.beside in
    let new-from : new.from ≡ from = ap (λ b. b.0.1) kept ∙ old-from in
    let new-most : new.most ≡ most = ap (λ b. b.0.2) kept ∙ old-most in
    let new-bytes : c.into_slice.result.now ≡ new.row.slice.now = c.into_slice.ensures.cells ∙ sym (ap (λ x. x.now) back) in
    let new-name : c.into_slice.result.ghost_name ≡ new.row.slice.ghost_name = c.into_slice.ensures.memory ∙ sym (ap (λ x. x.ghost_name) back) in
    let old-window : window old.from old.most old.row.slice.now ≡ window from most c.args.bytes.now = cc in
    let new-window : window from most c.into_slice.result.now ≡ window new.from new.most new.row.slice.now = cc in
    record {
      value = c.write-answer.ensures.value ∙ ap (λ xs. write_at (packed 8 link_item xs) c.args.place) old-window;
      after = ap (packed 8 link_item) new-window ∙ c.write-answer.ensures.after ∙ ap (λ xs. set (packed 8 link_item xs) c.args.place c.args.entry) old-window;
      bytes = new-window ∙ c.write-answer.ensures.bytes ∙ ap (λ xs. cond (is_ok c.write-answer.result) (paste xs (c.args.place * 8) (link_bytes c.args.entry) 8) xs) old-window;
      beside =
          behind_same 8 _ _ _ _ (parts _ _ _ _ _ _ _ _ new-name (sym new-from) (sym new-most) new-bytes) new-window
          ∙ kept
          ∙ behind_same 8 _ _ _ _ (parts _ _ _ _ _ _ _ _ old-name old-from old-most old-bytes) old-window;
    }
