use Rattle.std.proofs.Common.{◌-◌, None, sym, arith}
use Rattle.std.specs.Result.{result_unwrap_or}
use Rattle.model.specs.Checks.{get_cells}
use Rattle.model.specs.Layouts.{capacity}
use Rattle.model.proofs.Steps.{first_below}
use Rattle.slotmap.proofs.iter.Cursor.next.Goals as goal

-- the key that was found is below the capacity, which is small
pub overflow_add-self : goal.overflow_add-self
overflow_add-self g c =
    let l = g.T.SlotMap.layout c.args.table.now in
    let p = c.args.self.now.key in
    let below = first_below (λ k. result_unwrap_or (get_cells l k) None) p (capacity l - p) (c.in_ok-key.key, c.in_ok-key.value) (sym c.in_ok-key.ensures.value) in
    let small = (g.met.T.SlotMap.legal c.args.table.now).0 in
    omega (arith, below, small)
