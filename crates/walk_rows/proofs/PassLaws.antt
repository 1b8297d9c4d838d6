-- A walk by its answers and by the nodes where it tells runs: one step, and one walk after another.
use mathlib.Core.List.{List, [], ◌∷◌, ◌++◌, append-nil, append_assoc}
use mathlib.Core.Path.{◌≡◌, refl, ap, sym}
use Prim.Native.Nat.{ℕ, zero, suc}
use lib.ListN.{length}
use Rattle.walk.specs.declared.Place.{Place}
use Rattle.walk.specs.declared.Stepped.{Stepped}
use Rattle.walk.specs.declared.Answer.{Answer}
use Rattle.walk.specs.declared.Answer.TheVariants.{Moved, Run, EndRow, Done, Refused}
use Rattle.walk.specs.Walk.{step_of}
use Rattle.walk_rows.specs.Whole.{Walked, here, step, trace, through}

abbrev pub at : ℕ → ℕ → ℕ → ℕ → ℕ → ℕ → Place
at n p l e x y = record { n = n; node = p; level = l; left = e; x = x; y = y }

abbrev pub gives : Answer → Place → Stepped
gives a q = record { place = q; answer = a }

pub trace_step : (T : List ℕ) (p q : Place) (a : Answer) (k : ℕ) → step_of T p ≡ gives a q → trace (suc k) T p ≡ gives a q ∷ trace k T q
unfolding trace
trace_step T p q a k e = rw e

pub trace_length : (k : ℕ) (T : List ℕ) (p : Place) → length (trace k T p) ≡ k
unfolding trace
trace_length zero T p = refl
trace_length (suc k) T p = ap suc (trace_length k T (step_of T p).place)

-- one walk after another, and its steps
pub then : {T : List ℕ} {p q r : Place} {us vs : List Answer} → Walked T p us q → Walked T q vs r → Walked T p (us ++ vs) r
then here w = w
then (step a q e v) w = step a q e (then v w)

pub trace_then : {T : List ℕ} {p q : Place} {us : List Answer} → Walked T p us q → (vs : List Answer)
    → trace (length (us ++ vs)) T p ≡ trace (length us) T p ++ trace (length vs) T q
unfolding trace
trace_then here vs = refl
trace_then (step a q e w) vs = rw (e, trace_then w vs)

-- the node where a step tells a run, and all of them
abbrev pub told_at : Answer → ℕ → List ℕ
told_at Moved p = []
told_at (Run c w) p = p ∷ []
told_at EndRow p = []
told_at Done p = []
told_at (Refused c v) p = []

unfoldable pub standing : List Stepped → List ℕ
standing [] = []
standing (s ∷ more) = told_at s.answer s.place.node ++ standing more

pub standing_append : (us vs : List Stepped) → standing (us ++ vs) ≡ standing us ++ standing vs
unfolding standing
standing_append [] vs = refl
standing_append (u ∷ us) vs = rw (standing_append us vs) (sym (append_assoc (told_at u.answer u.place.node) (standing us) (standing vs)))

-- from p, by these answers, the runs told at these nodes, to q
pub record Passes (T : List ℕ) (p : Place) (us : List Answer) (leaves : List ℕ) (q : Place) : Type 0 where
  pub walked : Walked T p us q
  pub told : standing (trace (length us) T p) ≡ leaves

pub one_pass : {T : List ℕ} {p q : Place} {a : Answer} → step_of T p ≡ gives a q → Passes T p (a ∷ []) (told_at a q.node) q
unfolding trace standing
one_pass {q = q} {a = a} e = record { walked = step a q e here; told = rw e (append-nil _) }

pub one_moved : {T : List ℕ} {p q : Place} → step_of T p ≡ gives Moved q → Passes T p (Moved ∷ []) [] q
one_moved e = one_pass e

pub one_run : {T : List ℕ} {p q : Place} {c w : ℕ} → step_of T p ≡ gives (Run c w) q → Passes T p (Run c w ∷ []) (q.node ∷ []) q
one_run e = one_pass e

pub passes_then : {T : List ℕ} {p q r : Place} {us vs : List Answer} {ps qs : List ℕ} → Passes T p us ps q → Passes T q vs qs r
    → Passes T p (us ++ vs) (ps ++ qs) r
passes_then {vs = vs} v w = record {
  walked = then v.walked w.walked;
  told = rw (trace_then v.walked vs, standing_append, v.told, w.told);
}

pub passes_through : {T : List ℕ} {p q r s : Place} {us : List Answer} {ps : List ℕ} → step_of T p ≡ gives Moved q → Passes T q us ps r
    → step_of T r ≡ gives Moved s → Passes T p (through us) ps s
passes_through {ps = ps} e w f = rw (append-nil ps) at (passes_then (one_moved e) (passes_then w (one_moved f)))
