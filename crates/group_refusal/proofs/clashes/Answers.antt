-- `group_refusal::clashes` meets its contract: the loop keeps that what is left gives the whole. Assumes nothing.
use Prim.Native.Nat.{◌-◌}
use mathlib.Core.Path.{sym, ◌∙◌}
use native.Mathlib.Omega.{arith}
use borrow.Author.Rules.{rules}
use Rattle.group_pixels.specs.Pixel.{clash}
use Rattle.group_refusal.proofs.Faults.{some-start, some-found, some_on, some-none}
use Rattle.group_refusal.proofs.clashes.Goals as goal

pub loop-i-init : goal.loop-i-init
loop-i-init c = some-start _ _

pub clash-requires : goal.clash-requires
clash-requires c =
    let k = c.requires.1 in
    (record { bytes_there = omega arith; oklab_there = omega arith }, c.requires.0 _ c.loop-i-test.true, k)

pub returns-then-clash : goal.returns-then-clash
returns-then-clash c = some-found _ _ _ _ c.loop-i.invariant c.loop-i-test.true (sym c.clash.ensures ∙ c.if-clash.true)

pub loop-i-preserved : goal.loop-i-preserved
loop-i-preserved c = some_on _ _ _ _ c.loop-i.invariant c.loop-i-test.true (sym c.clash.ensures ∙ c.if-clash.false)

pub returns : goal.returns
returns c = some-none _ _ _ _ c.loop-i.invariant c.loop-i-test.false
