-- The ten public calls keep the first demand. Assumes nothing.
use Rattle.std.specs.Prelude.{Result, Ok, Err}
use Prim.Native.Nat.{ℕ}
use mathlib.Core.Path.{◌≡◌, refl, sym, ap, subst, subst⁻¹, ◌∙◌}
use mathlib.Core.Bool.{Bool, true, false, not, cond, ◌&&◌}
use mathlib.Core.List.{List, [], ◌∷◌, ◌++◌, append-nil}
use lib.Dec.{eqb, leb, ltb}
use lib.ListN.{length}
use lib.Seq.{sets}
use lib.Ieee.{Float}
use borrow.Author.Tests.{ne_eqb}
use Rattle.answer.specs.Refusals.{Answered, refusal, nothing, answer_in}
use Rattle.answer.specs.Rules.{Rule, rule, answer, numbered}
use Rattle.answer.specs.Names.{Names}
use Rattle.answer.specs.Outcome.{Outcome, outcome, decided}
use Rattle.answer.proofs.Passing.{answer_then}
use Rattle.answer.proofs.Places.{plain, plain_then, aside}
use Rattle.job.specs.Job.{Job, is_empty}
use Rattle.job.specs.Checks.{tile_sized, plain_rules, plain_answer}
use Rattle.job.specs.Bad.{plain_names}
use Rattle.job.proofs.Indexes.{Placed, unplaced, plain-placed}
use Rattle.fits_outcome.specs.Fits.{single_def}
use Rattle.fits_outcome.specs.Pairs.{pair_def}
use Rattle.fits_check.specs.One.{one_rules, one_answer, single_answer}
use Rattle.assign.specs.Assign.{TileMemory, room_for, assign_answer, assign_def}
use Rattle.group_refusal.specs.Refusal.{Pixels, EntryRoom, group_answer}
use Rattle.group_refusal.proofs.Names.{answer_names, accepted-nothing}
use Rattle.group.specs.Group as groups
use Rattle.bits.specs.Bits.{bits}
use Rattle.format.specs.Format.{Res, fault, got, clear, Answer, refused, accepted, ended}
use Rattle.sheet_format.specs.Sheet.{Sheet, edition_of, sheet, fault_of}
use Rattle.sheet.specs.Sheets.{Room, enough, found, read_into, read_def, file_of, stored_in, write_def}
use Rattle.quantizer.specs.Course.{Course}
use Rattle.run_stages.specs.Calls.{Memory, advanced, start_rules, advance_rules, hand_in_rules, result_rules, start_answer, advance_answer, hand_in_answer, result_answer, start_call, advance_call, hand_in_call, result_call}
use Rattle.run_calls.specs.Names.{start_names, run_names, hand_in_names}
use Rattle.run_calls.proofs.Indexes.{start-placed, advance-placed, hand_in-placed, result-placed}
use Rattle.demands.specs.Calls.{Call, Ruled}
use Rattle.demands.specs.First.{itself, refusal_in, colour_names, write_rules, First}
use Rattle.demands.proofs.Calls.{decides, ruled}

-- ---- start, advance, hand_in, result
module _ (K : Course) (m : Memory) where
  start : (seed : ℕ) → Ruled (start_call K m seed) itself (start_rules K m) itself m (start_names K)
  unfolding start_call start_answer numbered
  start seed = ruled itself itself (λ e. refl) _ refl m (start_rules K m) refl (start_names K) (start-placed K m).0

  advance : (a : ℕ) → Ruled (advance_call K m a) (λ x. x.refusal) (advance_rules K m) (λ e. advanced e 0) m (run_names K m)
  unfolding advance_call advance_answer numbered
  advance a = ruled (λ x. x.refusal) (λ e. advanced e 0) (λ e. refl) _ refl m (advance_rules K m) refl (run_names K m) (advance-placed K m).0

  hand_in : (reduced : List Float) → Ruled (hand_in_call K m reduced) itself (hand_in_rules K m reduced) itself m (hand_in_names K m reduced)
  unfolding hand_in_call hand_in_answer numbered
  hand_in reduced = ruled itself itself (λ e. refl) _ refl m (hand_in_rules K m reduced) refl (hand_in_names K m reduced) (hand_in-placed K m reduced).0

  result : (out : List Float) → Ruled (result_call K m out) itself (result_rules K m out) itself out (run_names K m)
  unfolding result_call result_answer numbered
  result out = ruled itself itself (λ e. refl) _ refl out (result_rules K m out) refl (run_names K m) (result-placed K m out).0

-- ---- the single fit, best_two, assign
module _ (J : Job) (palette : List Float) where
  -- rules that name no entry, before and behind those of every call without samples
  plain-index : (before : List Rule) (room : Bool) (behind : List Rule) → plain (aside (plain_names J palette)) before ≡ true → plain (aside (plain_names J palette)) behind ≡ true
      → Names (plain_names J palette) (answer (before ++ (plain_rules J palette room ++ behind)))
  plain-index before room behind b e =
      (plain_then (Placed (plain_names J palette)) (aside (plain_names J palette)) (unplaced (plain_names J palette)) before (plain_rules J palette room ++ behind) b (λ _. plain-placed J palette room behind (λ _. last))).0
    where
      last : Placed (plain_names J palette) (answer behind)
      last = subst (λ (rs : List Rule). Placed (plain_names J palette) (answer rs)) (append-nil behind)
          (plain_then (Placed (plain_names J palette)) (aside (plain_names J palette)) (unplaced (plain_names J palette)) behind [] e
          (λ _. unfold answer in unplaced (plain_names J palette) 0 refl))

  single_fit : (hints : List ℕ)
      → Ruled (single_def J palette hints) answer_in (one_rules J palette (length hints) ++ (rule 15 (not (is_empty J 0)) ∷ [])) Err hints (plain_names J palette)
  unfolding single_def single_answer numbered
  single_fit hints =
      ruled answer_in Err (λ e. refl) _ refl hints (one_rules J palette (length hints) ++ (rule 15 (not (is_empty J 0)) ∷ [])) refl (plain_names J palette)
      (plain-index (rule 2 (eqb J.T 1) ∷ []) (eqb (length hints) J.T) (rule 15 (not (is_empty J 0)) ∷ []) refl refl)

  best_two : (hints : List ℕ) → Ruled (pair_def J palette hints) answer_in (one_rules J palette (length hints)) Err hints (plain_names J palette)
  unfolding pair_def one_answer numbered
  best_two hints =
      ruled answer_in Err (λ e. refl) _ refl hints (one_rules J palette (length hints)) refl (plain_names J palette)
      (plain-index (rule 2 (eqb J.T 1) ∷ []) (eqb (length hints) J.T) [] refl refl)

  assign : (h : TileMemory)
      → Ruled (assign_def J palette h) itself (plain_rules J palette (room_for J.T (length h.hints) (length h.out))) itself h (plain_names J palette)
  unfolding assign_def assign_answer plain_answer numbered
  assign h =
      let room = room_for J.T (length h.hints) (length h.out) in
      ruled itself itself (λ e. refl) _ refl h (plain_rules J palette room) refl (plain_names J palette) (plain-index [] room [] refl refl)

-- ---- grouping: `group_answer` is 2, 3, then pixel by pixel 7 before 14
grouping : (size : ℕ) (q : Pixels) (m : EntryRoom) → Call (groups.grouping size q m) answer_in (group_answer size q m) Err m
unfolding groups.grouping
grouping size q m = decides answer_in Err (λ e. refl) _ refl m (group_answer size q m) (λ z. sym (accepted-nothing size q m z))

-- ---- the sheet's reader: 2 for the tile size, 3 for room, 13 for too many bytes, then the first fault in field order (Sheets: 0, 2, 3, 12 and 13 exactly when)
read_sheet : (size : ℕ) (bytes : List ℕ) (h : Room) → Call (read_def size bytes h) answer_in (refusal_in (found size bytes h)) Err h
unfolding read_def
read_sheet size bytes h = by (found size bytes h)
  where
    by : (a : Answer Sheet) → Call (read_into (edition_of size) a h) answer_in (refusal_in a) Err h
    by (refused e) = record { only = λ x y p q. p ∙ sym q; numbers = refl; refuses = λ n. refl }
    by (accepted x) = record { only = λ x y p q. p ∙ sym q; numbers = refl; refuses = λ n. absurd (n refl) }

read_index : (size : ℕ) (bytes : List ℕ) (h : Room) → Names colour_names (refusal_in (found size bytes h))
read_index size bytes h = by (tile_sized size) (enough h) (leb (length bytes) 65536) ((sheet (edition_of size)).parse (bits bytes))
  where
    none : (number : ℕ) → Names colour_names (refusal number 0)
    none number = (λ _. tt, λ _. refl)

    last : (b : Bool) (x : Sheet) → Names colour_names (refusal_in (cond b (accepted x) (refused (refusal 13 0))))
    last true x = none 0
    last false x = none 13

    parsed : (x : Res Sheet) → Names colour_names (refusal_in (ended fault_of x))
    parsed (fault n i) = (λ _. tt, λ h. rw (ne_eqb n 7 h))
    parsed (got x r) = last (ltb (length r) 8 && clear r) x

    by : (t r s : Bool) (x : Res Sheet) → Names colour_names (refusal_in (cond t (cond r (cond s (ended fault_of x) (refused (refusal 13 0))) (refused (refusal 3 0))) (refused (refusal 2 0))))
    by true true true x = parsed x
    by true true false x = none 13
    by true false s x = none 3
    by false r s x = none 2

-- ---- its writer: as for fitting, then 13, then 3 for room
module _ (J : Job) (palette : List Float) (bytes : List ℕ) where
  abbrev unwritten : Answered → Outcome (Result ℕ Answered) (List ℕ)
  unwritten e = outcome (Err e) bytes

  abbrev written : Outcome (Result ℕ Answered) (List ℕ)
  written = outcome (Ok (length (file_of J palette))) (sets bytes 0 (file_of J palette))

  in_order : (rules : List Rule) (p q : Bool) → numbered rules ≡ true
      → decided (answer rules) (cond p (cond q written (unwritten (refusal 3 0))) (unwritten (refusal 13 0))) (Err (answer rules)) bytes
      ≡ decided (answer (rules ++ (rule 13 p ∷ rule 3 q ∷ []))) written (Err (answer (rules ++ (rule 13 p ∷ rule 3 q ∷ [])))) bytes
  unfolding decided
  in_order rules p q h =
      by (answer rules) (eqb (answer rules).number 0) p q refl
      ∙ ap (λ (e : Answered). cond (eqb e.number 0) written (unwritten e)) (sym joined)
    where
      joined : answer (rules ++ (rule 13 p ∷ rule 3 q ∷ [])) ≡ cond (eqb (answer rules).number 0) (cond p (cond q nothing (refusal 3 0)) (refusal 13 0)) (answer rules)
      joined = unfold answer in answer_then rules (rule 13 p ∷ rule 3 q ∷ []) h

      by : (a : Answered) (t p q : Bool) → eqb a.number 0 ≡ t
          → cond t (cond p (cond q written (unwritten (refusal 3 0))) (unwritten (refusal 13 0))) (unwritten a)
          ≡ (let e = cond t (cond p (cond q nothing (refusal 3 0)) (refusal 13 0)) a in cond (eqb e.number 0) written (unwritten e))
      by a true true true e = refl
      by a true true false e = refl
      by a true false q e = refl
      by a false p q e = rw e

  write_sheet : Ruled (write_def J palette bytes) answer_in (write_rules J palette bytes) Err bytes (plain_names J palette)
  unfolding write_def stored_in plain_answer numbered
  write_sheet =
      subst⁻¹ (λ (d : Outcome (Result ℕ Answered) (List ℕ)). Ruled d answer_in (write_rules J palette bytes) Err bytes (plain_names J palette))
      (in_order (plain_rules J palette true) (leb (length (file_of J palette)) 65536) (leb (length (file_of J palette)) (length bytes)) refl)
      (ruled answer_in Err (λ e. refl) written refl bytes (write_rules J palette bytes) refl (plain_names J palette)
      (plain-index J palette [] true (rule 13 (leb (length (file_of J palette)) 65536) ∷ rule 3 (leb (length (file_of J palette)) (length bytes)) ∷ []) refl refl))

pub first_demand : First
first_demand =
    record {
      start = start;
      advance = advance;
      hand_in = hand_in;
      result = result;
      single_fit = single_fit;
      best_two = best_two;
      assign = assign;
      grouping = grouping;
      grouping_index = answer_names;
      read_sheet = read_sheet;
      read_index = read_index;
      write_sheet = write_sheet;
    }
