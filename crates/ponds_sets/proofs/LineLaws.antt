-- The lines as the sets grow together, and a label joined with what a line tells.
use mathlib.Core.List.{List}
use mathlib.Core.Path.{◌≡◌, refl, ap, sym, ◌∙◌}
use Prim.Native.Nat.{ℕ}
use Rattle.ponds_sets.specs.Sets.{Placed, Further, Joining, Joined}
use Rattle.ponds_sets.specs.Lines.{Label, Line, MetAt, Met}
use Rattle.ponds_sets.specs.Touch.{first_nonzero}
use Rattle.ponds_sets.specs.Walk.{Facing, Meets}
use Rattle.ponds_sets.proofs.SetsLaws.{further_none}
use Rattle.ponds_sets.proofs.TouchLaws.{nonzero_second, nonzero_first}

module _ {n : ℕ} {T W W' : List ℕ} {f g : ℕ → ℕ} (m : Further n T W f W' g) where
  pub label_still : {v j : ℕ} → Label n T W f v j → Label n T W' g v j
  label_still {v} {j} l = record {
    label = m.placed v l.label;
    leaf = m.placed j l.leaf;
    one = m.together v j l.label l.leaf l.one;
    early = l.early;
  }

  pub line_still : {e x y v : ℕ} → Line n T W f e x y v → Line n T W' g e x y v
  line_still l = record {
    off = l.off;
    on = λ k. record {
      wet = λ j w h. label_still ((l.on k).wet j w h);
      dry = λ z. let t = (l.on k).dry z in (t.0, t.1, label_still t.2);
    };
  }

  pub met_at_still : {p x y : ℕ} → Placed T W p → MetAt n T W f p x y → MetAt n T W' g p x y
  met_at_still {p} h a = record {
    north = λ l j w k. let t = a.north l j w k in (m.placed j t.0, m.together j p t.0 h t.1);
    west = λ l j w k. let t = a.west l j w k in (m.placed j t.0, m.together j p t.0 h t.1);
  }

  pub met_still : {p : ℕ} → Placed T W p → Met n T W f p → Met n T W' g p
  met_still h a x y k = met_at_still h (a x y k)

-- a label joined with another
module _ {W : List ℕ} {label other v : ℕ} (z : Facing W label other) (e : v ≡ first_nonzero other label) where
  is_some : (v ≡ label → ⊥) → other ≡ 0 → ⊥
  is_some ne o = ne (e ∙ nonzero_second other label o)

  pub face_joining : (v ≡ label → ⊥) → Joining W label other
  face_joining ne = record { n = z.n; T = z.T; lead = z.lead; sets = z.sets; first = z.own; second = z.there (is_some ne) }

  pub face_joined : (v ≡ label → ⊥) → (W' : List ℕ) → Joined W label other W' → Meets W label other W'
  face_joined ne W' j = record {
    long = j.long;
    alike = j.alike;
    faced = λ n T lead s hl ho way.
        let u = j.union n T lead s hl (ho (is_some ne)) (way (is_some ne)) in
        record { lead' = u.lead'; further = u.further; one = λ o. sym u.one };
  }

  pub face_none : v ≡ label → Meets W label other W
  face_none same = record {
    long = refl;
    alike = λ i o. o;
    faced = λ n T lead s hl ho way. record {
      lead' = lead;
      further = further_none s;
      one = λ o. ap lead (sym (nonzero_first other label o) ∙ sym e ∙ same);
    };
  }
