-- `cut_one` meets its contract: no float is both above 2 and below -2. Assumes nothing.
use mathlib.Core.Path.{◌≡◌, refl, sym, subst, ◌∙◌}
use mathlib.Core.Bool.{Bool, true, false, cond}
use lib.Ieee.{Float, lt, neg, of_bits}
use lib.Dec.{T}
use Rattle.std.proofs.lemmas.Float.{lt_trans}
use Rattle.job.specs.Job.{two}
use Rattle.train_run.specs.Training.{cut_one}
use Rattle.train_parts.proofs.cut_one.Goals as goal

apart : T (lt two (neg two)) → ⊥
unfolding lt of_bits neg
apart h = h

holds : {b : Bool} → b ≡ true → T b
holds e = subst T (sym e) tt

either : (x : Float) (low high : Bool) → lt x (neg two) ≡ low → lt two x ≡ high
    → cond low (neg two) (cond high two x) ≡ cond high two (cond low (neg two) x)
either x false high e f = refl
either x true false e f = refl
either x true true e f = absurd (apart (lt_trans two x (neg two) (holds f) (holds e)))

pub returns : goal.returns
unfolding cut_one
returns c = c.clamp.ensures.value ∙ either c.args.x _ _ refl refl
