-- `count_tile` meets its contract: an empty tile adds nothing. Assumes nothing.
use Prim.Native.Nat.{ℕ, ◌+◌}
use mathlib.Core.Path.{◌≡◌, sym, ap, ◌∙◌}
use mathlib.Core.Bool.{Bool, not}
use lib.Dec.{eqb}
use lib.ListN.{get_or, set}
use Rattle.lists.specs.Count.{hit}
use Rattle.job.specs.Job.{size_of}
use Rattle.fit_tiles.proofs.count_tile.Goals as goal
use Rattle.fit_tiles.proofs.count_tile.Goals.{then-is_empty, else-is_empty}

pub returns : goal.returns
unfolding hit
returns c =
    let a = c.args in
    let is = c.is_empty.ensures in
    let adds : Bool → ℕ = λ b. hit (not b) in
    let one : c.if-is_empty.one ≡ hit (not (eqb (size_of a.job.now.tiles.now a.i) 0)) =
    elim c.if-is_empty.branch [
      | then-is_empty w ↦ w.one-is ∙ ap adds (sym w.if-is_empty.true ∙ is)
      | else-is_empty w ↦ w.one-is ∙ ap adds (sym w.if-is_empty.false ∙ is)
    ] in
    ap (λ (n : ℕ). set a.loads.now a.sub (get_or a.loads.now a.sub 0 + n)) one
