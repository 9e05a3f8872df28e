-- `quantizer_choice::choose` meets its contract: both places are among the sums. Assumes nothing.
use mathlib.Core.Path.{ap}
use native.Mathlib.Omega.{arith}
use Rattle.quantizer.specs.declared.Swap.{Swap}
use Rattle.quantizer_choice.proofs.Choices.{places_in}
use Rattle.quantizer_choice.proofs.choose.Goals as goal

pub offset_bounds-lost-to : goal.offset_bounds-lost-to
offset_bounds-lost-to c = omega (arith, (places_in _ _ _ _ (ap (λ (s : Swap). s.from) c.most_and_least-from.ensures) (ap (λ (s : Swap). s.to) c.most_and_least-from.ensures) c.requires).1)

pub bounds-lost-to : goal.bounds-lost-to
bounds-lost-to c = (places_in _ _ _ _ (ap (λ (s : Swap). s.from) c.most_and_least-from.ensures) (ap (λ (s : Swap). s.to) c.most_and_least-from.ensures) c.requires).1

pub offset_bounds-had-from : goal.offset_bounds-had-from
offset_bounds-had-from c = omega (arith, (places_in _ _ _ _ (ap (λ (s : Swap). s.from) c.most_and_least-from.ensures) (ap (λ (s : Swap). s.to) c.most_and_least-from.ensures) c.requires).0)

pub bounds-had-from : goal.bounds-had-from
bounds-had-from c = (places_in _ _ _ _ (ap (λ (s : Swap). s.from) c.most_and_least-from.ensures) (ap (λ (s : Swap). s.to) c.most_and_least-from.ensures) c.requires).0
