-- Whole naming stops and starts.
use Rattle.arj_law_parts.proofs.Words
use Words.{◌≡◌, ◌∙◌, ℕ, List, [], ◌∷◌, Bool, true, false, cond, Some, refl, sym, subst, arith, is_eq, nat_cmp, ObjectState, Row, Uid}
use Words.{named_back, pending_of, recovered_naming, rows_back, Pair, Named, unnamed, at_number, map}
use Rattle.arj_law_lock_view.proofs.Terms.{SeesNamed, HaveFirsts, place_of}
use Rattle.arj_law_lock_view.proofs.view
use view.{FirstRows.firsts_back, RunSteps.goes_to}
use view.RestartSteps.{falls_are_seen, restarts_are_seen}
use Rattle.arj_law_lock_view.specs.view.Namings.{NamingIsDown, NamingStarts, NamingStops}

-- of what is found behind a restart naming knows the entry alone
back_at : (d : Pair) (x : ℕ) (held : List (Uid × ObjectState)) (o : Named) → at_number x (map (named_back d) held) ≡ Some o →
    (e : Uid × ObjectState) × (o ≡ unnamed (rows_back e.0 e.1 (pending_of e.0 d.pend)))
back_at d x [] o h = absurd (cc h)
back_at d x (e ∷ es) o h = by (is_eq (nat_cmp x e.0.num)) h (back_at d x es o)
  where
    by : (b : Bool) → cond b (Some (unnamed (rows_back e.0 e.1 (pending_of e.0 d.pend)))) (at_number x (map (named_back d) es)) ≡ Some o →
        (at_number x (map (named_back d) es) ≡ Some o → (q : Uid × ObjectState) × (o ≡ unnamed (rows_back q.0 q.1 (pending_of q.0 d.pend))))
        → (q : Uid × ObjectState) × (o ≡ unnamed (rows_back q.0 q.1 (pending_of q.0 d.pend)))
    by true is rest = (let one : unnamed (rows_back e.0 e.1 (pending_of e.0 d.pend)) ≡ o = cc is in (e, sym one))
    by false is rest = rest is

pub naming_stops : NamingStops
naming_stops v owner n S few reached good sees =
    falls_are_seen v.family.act owner v.x (place_of n) sees.named S few reached (good sees.named sees.there) sees.seen

pub naming_is_down : NamingIsDown
naming_is_down first inc = record {
  bound = omega arith;
  first = omega arith;
  recorded = omega arith;
  empty = λ a. (refl, refl);
  nobody = λ a. (refl, refl);
  made = λ m. omega arith;
}

pub naming_starts : NamingStarts
naming_starts v inc i d o S up there down = goes_to
    (restarts_are_seen v.family.act v.x inc (place_of (recovered_naming i d)) rows S up refl down)
    (λ T g. (
      record {
        named = o;
        there = there;
        seen = subst (λ (z : Named). SeesNamed v.family.act v.x (place_of (recovered_naming i d)) z T) (sym back.1) g.0;
        told = λ p topped fresh. (g.3 _).0;
        confirmed = λ u h. (let k = g.3 (v.family.act u) in absurd (cc (sym h ∙ k.1)));
        firsts = subst (λ (z : Named). HaveFirsts v.family.act (let n = recovered_naming i d in n.confirmed) T.naming.confirmed z.rows)
            (sym back.1) (firsts_back v.family.act T.naming.confirmed back.0.0 back.0.1 d.pend (λ a. (g.3 a).1));
      },
      g.1,
      g.2,
    ))
  where
    back : (e : Uid × ObjectState) × (o ≡ unnamed (rows_back e.0 e.1 (pending_of e.0 d.pend)))
    back = back_at d v.x d.held o there

    rows : List Row
    rows = rows_back back.0.0 back.0.1 (pending_of back.0.0 d.pend)
