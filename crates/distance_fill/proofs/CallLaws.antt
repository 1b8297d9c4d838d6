-- The call's refusals are the tests'; only where all are passed anything is written.
use Rattle.std.specs.Prelude.{Ok, Err}
use Rattle.std.specs.Result.{IsErr, IsErrAnd}
use mathlib.Core.List.{List}
use mathlib.Core.Path.{◌≡◌}
use Prim.Native.Nat.{ℕ}
use lib.ListN.{length}
use Rattle.answer.specs.declared.Refusal.{Refusal}
use Rattle.answer.specs.Numbers.{Outcome}
use Rattle.answer.proofs.OutcomeLaws.{refusal_refuses, given_back}
use Rattle.table.specs.Rules.{each_node_of}
use Rattle.distance.specs.Distance.{plain_outside, distances_of, distance_of, distances_after}
use Rattle.distance.specs.Calls.{Distances}

module _ (n : ℕ) (T before : List ℕ) where
  -- a refusal leaves the slice; an answer fills it
  pub refused : (r : Outcome) (e : Refusal) → IsErr r × IsErrAnd r (λ x. x ≡ e) → Err e ≡ each_node_of n T (length before) → Distances n T before r before
  unfolding distance_of distances_after
  refused r e g h =
      record {
        outcome = rw (given_back r e g, distance_of, ← h, refusal_refuses e);
        slice = rw (distances_after, distance_of, ← h, refusal_refuses e, refusal_refuses e);
      }

  pub filled : (v : ℕ) → Ok v ≡ each_node_of n T (length before) → (after : List ℕ) → after ≡ distances_of plain_outside n T → Distances n T before (Ok 0) after
  unfolding distance_of distances_after
  filled v h after q = record { outcome = rw (distance_of, ← h); slice = rw (distances_after, distance_of, ← h) q }
