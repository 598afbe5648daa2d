-- What the plan of a top includes somewhere the top did, where its includes survive.
use Rattle.arj_law_parts.proofs.Words
use Words.{◌≡◌, ◌∙◌, ◌==◌, ◌&&◌, ◌||◌, ℕ, List, [], ◌∷◌, Bool, true, false, not, refl, sym, ap, subst, inl, map, list_any, and_parts}
use Words.{or_parts, uid_is, In, in_filter, Path, Uid, is_on, uid_eq, actor, Used, Coord, Joined, Root, joins_on, objects_in}
use Words.{plan_for, survives, used_of, number_set, Tree, behind, ended_so, has_end, is_committed, is_merged, root_of, is_empty}
use Words.ending
use Rattle.arj_law_disk_view.proofs.Terms.{IsSure, never, test_is, AreIncluded}
use Rattle.arj_law_disk_view.proofs.running.SoundPlans.{uses_made}
use Rattle.arj_law_disk_view.specs.running.Sound.{IsIncluded}

negated : (b : Bool) → not b ≡ true → b ≡ false
negated true h = absurd (cc h)
negated false h = refl

kept_true : (b : Bool) → not b ≡ false → b ≡ true
kept_true true h = refl
kept_true false h = absurd (cc h)

-- all of them were committed
each_merged : (t : Tree) (us : List Uid) → list_any (λ w. not (is_committed w t)) us ≡ false → (w : Uid) → is_on us w ≡ true →
    is_committed w t ≡ true
each_merged t [] none w on = absurd (cc on)
each_merged t (u ∷ us) none w on = let p = or_parts (not (is_committed u t)) (list_any (λ w. not (is_committed w t)) us) none in
    by (uid_eq u w) refl on p.0 (each_merged t us p.1 w)
  where
    by : (b : Bool) → uid_eq u w ≡ b → (b || is_on us w) ≡ true → not (is_committed u t) ≡ false →
        (is_on us w ≡ true → is_committed w t ≡ true) → is_committed w t ≡ true
    by true same h first ih = ap (λ z. is_committed z t) (sym (uid_is u w same)) ∙ kept_true (is_committed u t) first
    by false other h first ih = ih h

pub starts_included : (p : Path) (req : ℕ) (r : Root) (c : Coord) → IsSure c → AreIncluded r (plan_for p req r c)
starts_included p req r c sure v i = uses_made Q (used_of (actor p) r c) each (objects_in (actor p) r c) v i
  where
    Q : Used → Type 0
    Q u = is_empty u.joins ≡ false → IsIncluded r (plan_for p req r c) u.x

    each : (x : ℕ) → is_empty (used_of (actor p) r c x).joins ≡ false → IsIncluded r (plan_for p req r c) x
    each x = by (joins_on x (actor p) r c) refl
      where
        its : (j : Joined) (js : List Joined) → joins_on x (actor p) r c ≡ j ∷ js → IsIncluded r (plan_for p req r c) x
        its j js is =
            let f = in_filter (λ (z : Joined). (z.x == x) && survives (actor p) z.path c) j r.joined (subst (In j) (sym is) (inl refl)) in
            let q = and_parts (j.x == x) (survives (actor p) j.path c) f.1 in
            let s = and_parts (is_on j.path (actor p)) (is_merged (actor p) j.path c.tree) q.1 in
            record {
              path = j.path;
              joined = (j, f.0, refl, test_is j.x x q.0);
              on = s.0;
              lives = λ w on_it there.
                  let d = sure.lists (root_of p) w ending.Abort there in
                  never (each_merged c.tree (behind (actor p) j.path) (negated (list_any (λ z. not (is_committed z c.tree))
                  (behind (actor p) j.path)) s.1) w on_it) (ap (ended_so ending.Commit) d.1 ∙ ap (has_end ending.Commit) d.2);
            }

        by : (js : List Joined) → joins_on x (actor p) r c ≡ js → is_empty (used_of (actor p) r c x).joins ≡ false →
            IsIncluded r (plan_for p req r c) x
        by [] is full = absurd (never (ap (λ (js : List Joined). is_empty (number_set (map (λ (j : Joined). j.store) js))) is) full)
        by (j ∷ js) is full = its j js is
