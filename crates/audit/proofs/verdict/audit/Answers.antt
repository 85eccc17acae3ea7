use Rattle.std.proofs.Common.{refl, ◌∙◌, inl, inr}
use Rattle.audit.specs.Parts.{Listed, Loose, Shared}
use Rattle.audit.specs.Verdict.{layout_of, queue_of}
use Rattle.audit.proofs.Audits.{stands_from, stands_sized, stands_listed, stands_loose, stands_shared}
use Rattle.audit.proofs.Calls.{moved}
use Rattle.audit.proofs.verdict.audit.Goals as goal
use Rattle.audit.proofs.verdict.audit.Goals.{else-sizes_stand-via-then-sizes_stand+then-free_list_stands+then-holding_keys_are_loose+else-slots_stand, else-sizes_stand-via-then-sizes_stand+then-free_list_stands+else-holding_keys_are_loose, else-sizes_stand-via-then-sizes_stand+else-free_list_stands, else-sizes_stand-via-else-sizes_stand}

pub returns-then-slots_stand-clause-verdict : goal.returns-then-slots_stand-clause-verdict
returns-then-slots_stand-clause-verdict g c =
    let r = c.args.registers in
    let sizes = c.if-sizes_stand.ensures in
    let free = c.if-free_list_stands.ensures in
    let holding = c.if-holding_keys_are_loose.ensures in
    inl (
      refl,
      stands_from (layout_of r (g.X.Row.cells c.args.index.now) (g.L.Row.cells c.args.links.now) (g.D.Row.cells c.args.values.now) (g.Q.Row.cells c.args.slots.now))
          sizes.value
          (moved (λ xs ls. Listed xs ls r.capacity r.head r.waiting) sizes.index.0 sizes.links.0 free.value)
          (moved (λ xs ls. Loose xs ls r.capacity) (free.index.0 ∙ sizes.index.0) (free.links.0 ∙ sizes.links.0) holding.value)
          (moved (λ xs qs. Shared xs (queue_of r qs) r.len) (holding.index.0 ∙ free.index.0 ∙ sizes.index.0) sizes.slots.0 c.if-slots_stand.ensures.value),
    )

-- a part that does not stand
pub returns-else-sizes_stand-clause-verdict : goal.returns-else-sizes_stand-clause-verdict
returns-else-sizes_stand-clause-verdict g c =
    let r = c.args.registers in
    inr (
      refl,
      λ h.
          elim c.else-sizes_stand.branch [
            | else-sizes_stand-via-then-sizes_stand+then-free_list_stands+then-holding_keys_are_loose+else-slots_stand w ↦
                let sizes = w.if-sizes_stand.ensures in
                let free = w.if-free_list_stands.ensures in
                let holding = w.if-holding_keys_are_loose.ensures in
                moved (λ xs qs. Shared xs (queue_of r qs) r.len → ⊥) (holding.index.0 ∙ free.index.0 ∙ sizes.index.0) sizes.slots.0 w.if-slots_stand.ensures.value (stands_shared _ h)
            | else-sizes_stand-via-then-sizes_stand+then-free_list_stands+else-holding_keys_are_loose w ↦
                let sizes = w.if-sizes_stand.ensures in
                let free = w.if-free_list_stands.ensures in
                moved (λ xs ls. Loose xs ls r.capacity → ⊥) (free.index.0 ∙ sizes.index.0) (free.links.0 ∙ sizes.links.0) w.if-holding_keys_are_loose.ensures.value (stands_loose _ h)
            | else-sizes_stand-via-then-sizes_stand+else-free_list_stands w ↦
                let sizes = w.if-sizes_stand.ensures in
                moved (λ xs ls. Listed xs ls r.capacity r.head r.waiting → ⊥) sizes.index.0 sizes.links.0 w.if-free_list_stands.ensures.value (stands_listed _ h)
            | else-sizes_stand-via-else-sizes_stand w ↦ w.if-sizes_stand.ensures.value (stands_sized _ h)
          ],
    )
