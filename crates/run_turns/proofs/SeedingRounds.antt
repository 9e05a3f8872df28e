-- What a round of seeding asks and leaves. Assumes nothing.
use Prim.Native.Nat.{ℕ, ◌+◌, ◌-◌, ◌*◌, ◌/◌, ◌≤◌, ◌<◌}
use mathlib.Core.Path.{◌≡◌, ap}
use mathlib.Core.List.{List, []}
use native.Mathlib.Omega.{arith}
use lib.ListN.{length}
use lib.Ieee.{Float}
use borrow.Author.Tests.{lt-ltb}
use Rattle.job.specs.declared.Sizes.{Sizes}
use Rattle.job.specs.Job.{Job}
use Rattle.palette_edit.specs.Edits.{sub_copied}
use Rattle.quantizer.specs.Course.{Course, course_of}
use Rattle.quantizer.specs.Seeding.{duplicated}
use Rattle.quantizer.proofs.Bounds.{row_in}
use Rattle.run_stages.specs.declared.Record.{Record}
use Rattle.run_stages.specs.State.{State, state_with, placed}
use Rattle.run_stages.specs.Stages.{open_seeding}
use Rattle.run_record.specs.Sized.{plain}
use Rattle.run_turns.specs.Asked.{Doubling, Turning}
use Rattle.run_turns.specs.Rounds.{open_turn}

-- the two rows lie within the palette
pub rows : (z : Sizes) (p : List Float) (round from : ℕ) → Doubling z.s z.c p round from
    → (1 ≤ z.c) × ((from * (3 * z.c) + 3 * z.c ≤ length p) × ((round + 1) * (3 * z.c) + 3 * z.c ≤ length p))
rows z p round from D = (D.some, (row_in (plain z).job p D.size from D.source, row_in (plain z).job p D.size (round + 1) D.more))

pub opened_by : (K : Course) (p : List Float) (r : Record) (round from : ℕ) (p2 : List Float) → p2 ≡ sub_copied p K.job.C 1 from (round + 1)
    → (r2 : Record) → r2 ≡ placed r 0 round (K.n / 10) → state_with [] [] p2 [] r2 ≡ open_seeding K round from (state_with [] [] p [] r)
unfolding open_seeding duplicated
opened_by K p r round from p2 ep r2 er = rw (ep, er)

pub can_double : (J : Job) (h : List ℕ) (p l : List Float) (turn from : ℕ) (r : Record) → Turning J h p l turn from r → turn < J.S - 1 → Doubling J.S J.C p turn from
can_double J h p l turn from r A t =
    let Z = A.lent.whole.shown.ready.sizes in
    record { size = A.lent.whole.shown.room; some = Z.some; few = Z.few; more = omega arith; source = A.source }

-- opening passes the hints and the second palette by
pub seeded_by : (z : Sizes) (tiles : List ℕ) (colours : List Float) (counts h : List ℕ) (p l : List Float) (r : Record) (turn from : ℕ) (p2 : List Float) (r2 : Record)
    → state_with [] [] p2 [] r2 ≡ open_seeding (plain z) turn from (state_with [] [] p [] r) → turn < z.s - 1
    → state_with [] h p2 l r2 ≡ open_turn (course_of z tiles colours counts []) turn from (state_with [] h p l r)
unfolding open_turn open_seeding duplicated
seeded_by z tiles colours counts h p l r turn from p2 r2 e t =
    rw (lt-ltb turn (z.s - 1) t)
    (ap (λ (s : State). state_with s.order h s.palette l s.rec) e)
