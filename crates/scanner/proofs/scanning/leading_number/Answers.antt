use Rattle.std.proofs.Common.{◌≡◌, ◌+◌, ◌<◌, ℕ, false, length, take, sym, ap, subst, ◌∙◌}
use Rattle.std.proofs.lemmas.Iterator.{YieldsList-from_slice, YieldsList-from_take}
use Rattle.std.proofs.lemmas.Iterator.Consumers.{YieldsList-turn, YieldsList-end}
use Rattle.std.proofs.lemmas.List.{length_push}
use Rattle.std.specs.Option.{MatchOption}
use Rattle.text.specs.Numbers.{is_number}
use Rattle.scanner.specs.Leading.{Leads, NoneLeads}
use Rattle.scanner.proofs.Digits.{read_leads, read_more, stops_more, stops_all}
use Rattle.scanner.proofs.scanning.leading_number.Goals as goal
use Rattle.scanner.proofs.scanning.leading_number.Goals.{in-None, in-Some+in_default}

pub loop-byte-preserved : goal.loop-byte-preserved
loop-byte-preserved c =
    let text = c.args.text.now in
    let so_far = c.loop-byte.invariant in
    let turn = YieldsList-turn (YieldsList-from_take 10 (YieldsList-from_slice text cc) cc) c.loop-byte.yielded _ c.loop-byte.yielded_by _ _ c.in-Some.byte c.in-Some.is c.next.ensures.steps in
    let here = rw (← so_far.count) at turn in
    record {
      count = ap (λ n. n + 1) so_far.count ∙ sym (length_push c.loop-byte.yielded c.in-Some.byte);
      read = read_more text _ _ so_far.read c.in-Some.byte.now here.0 here.1 c.in-Some-and_digit.longer c.in-Some-and_digit.ensures;
    }

pub returns : goal.returns
returns c =
    let text = c.args.text.now in
    let so_far = c.loop-byte.invariant in
    let never : c.loop-byte.digits < length text → is_number (take (c.loop-byte.digits + 1) text) ≡ false
    = elim c.match-next.branch [
      | in-None w ↦
          let end = YieldsList-end (YieldsList-from_take 10 (YieldsList-from_slice text cc) cc) c.loop-byte.yielded _ c.loop-byte.yielded_by _ _ w.in-None.is c.next.ensures.steps in
          stops_all text _ _ so_far.read (so_far.count ∙ end.1)
      | in-Some+in_default w ↦
          let turn = YieldsList-turn (YieldsList-from_take 10 (YieldsList-from_slice text cc) cc) c.loop-byte.yielded _ c.loop-byte.yielded_by _ _ w.in-Some.byte w.in-Some.is c.next.ensures.steps in
          let here = rw (← so_far.count) at turn in
          stops_more text _ _ so_far.read w.in-Some.byte.now here.0 here.1 w.in_default.ensures
    ] in
    subst (λ o. MatchOption {T = ℕ × ℕ} o (NoneLeads text) (λ p. Leads text p.0 p.1)) (sym c.then_some.ensures) (read_leads text _ _ so_far.read never)
