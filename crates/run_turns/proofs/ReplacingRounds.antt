-- What a round of replacing and the stop after the last leave, from what the functions that they call ensure. Assumes nothing.
use Prim.Native.Nat.{ℕ, ◌/◌, ◌≤◌, ◌<◌}
use mathlib.Core.Path.{◌≡◌, ap, ◌∙◌}
use mathlib.Core.List.{List, []}
use lib.Ieee.{Float}
use borrow.Author.Tests.{lt-ltb, le-ltb}
use Rattle.job.specs.declared.Sizes.{Sizes}
use Rattle.run_record.specs.Sized.{plain}
use Rattle.run_keeping.specs.Keeping.{seen}
use Rattle.quantizer.specs.Course.{Course, course_of}
use Rattle.quantizer.specs.Replacing.{replaced, replaced_hints}
use Rattle.run_stages.specs.declared.Record.{Record}
use Rattle.run_stages.specs.State.{State, state_with, placed}
use Rattle.run_stages.specs.Stages.{open_replacing, enter_reducing}
use Rattle.run_turns.specs.Rounds.{replace_on}

pub opened_by : (K : Course) (h : List ℕ) (p : List Float) (r : Record) (round : ℕ) (h2 : List ℕ) (p2 : List Float) → p2 ≡ replaced K.job p → h2 ≡ replaced_hints K.job p h
    → (r2 : Record) → r2 ≡ placed r 2 round (K.n / 10) → state_with [] h2 p2 [] r2 ≡ open_replacing K round (state_with [] h p [] r)
unfolding open_replacing
opened_by K h p r round h2 p2 ep eh r2 er = rw (ep, eh, er)

-- ---- opening passes the second palette by, and ending the hints
open_beside : (K : Course) (h : List ℕ) (p l : List Float) (r : Record) (round : ℕ) (h2 : List ℕ) (p2 : List Float) (r2 : Record)
    → state_with [] h2 p2 [] r2 ≡ open_replacing K round (state_with [] h p [] r) → state_with [] h2 p2 l r2 ≡ open_replacing K round (state_with [] h p l r)
unfolding open_replacing
open_beside K h p l r round h2 p2 r2 e =
    ap (λ (s : State). state_with s.order s.hints s.palette l s.rec) e

pub end_beside : (z : Sizes) (tiles : List ℕ) (colours : List Float) (counts h : List ℕ) (p l : List Float) (r : Record) (p2 l2 : List Float) (r2 : Record)
    → state_with [] [] p2 l2 r2 ≡ enter_reducing (plain z) (state_with [] [] p l r) → state_with [] h p2 l2 r2 ≡ enter_reducing (course_of z tiles colours counts []) (state_with [] h p l r)
unfolding enter_reducing
end_beside z tiles colours counts h p l r p2 l2 r2 e =
    ap (λ (s : State). state_with s.order h s.palette s.least s.rec) e

-- ---- after the look
module _ (K : Course) (h : List ℕ) (p l : List Float) (r : Record) (round : ℕ) (h2 : List ℕ) (l2 : List Float) (r2 : Record) (e : state_with [] h2 p l2 r2 ≡ seen K round (state_with [] h p l r)) where
  pub replaced-more : round < 10 → (h3 : List ℕ) (p3 : List Float) (r3 : Record) → state_with [] h3 p3 [] r3 ≡ open_replacing K round (state_with [] h2 p [] r2) → state_with [] h3 p3 l2 r3 ≡ replace_on K round (state_with [] h p l r)
  unfolding replace_on
  replaced-more t h3 p3 r3 f = rw (lt-ltb round 10 t) (open_beside K h2 p l2 r2 round h3 p3 r3 f ∙ ap (open_replacing K round) e)

  pub replaced-last : 10 ≤ round → (p3 l3 : List Float) (r3 : Record) → state_with [] h2 p3 l3 r3 ≡ enter_reducing K (state_with [] h2 p l2 r2)
      → state_with [] h2 p3 l3 r3 ≡ replace_on K round (state_with [] h p l r)
  unfolding replace_on
  replaced-last t p3 l3 r3 f = rw (le-ltb round 10 t) (f ∙ ap (enter_reducing K) e)
