-- Whose entries an end takes away at naming is over in the machine: the action of that end, and whoever loses a row with it.
use Rattle.arj_law_parts.proofs.Words
use Words.{◌≡◌, ◌⊎◌, ◌∙◌, ◌&&◌, not, ℕ, List, [], ◌∷◌, Bool, true, false, Option, Some, None, refl, sym, ap, subst, inl, inr, ⊎_elim, arith}
use Words.{and_parts, or_cases, uid_is, in_to, End, Message, Uid, asks, is_on, uid_eq, last_end, Naming}
use Words.list
use Words.ending
use Words.message
use Words.naming
use Rattle.arj_law_lock_view.proofs.Terms
use Terms.{Act, Root, Sub, is_top, on, root, State, on_up, same_is, roots_low, start_low, AreOneTree, View, Case, IsSeenIn, KnowsNaming}
use Terms.{Spot, told_in, view_in, world_at, Fixed, IsAskedSeen, IsToldSo, IsOverIn}
use Terms.seen
use Rattle.arj_law_lock_view.proofs.running.ConfirmSteps.{ended_by}

-- above a top stands its root alone
above_top : (a b : Act) → is_top a ≡ true → on a b ≡ true → (b ≡ a) ⊎ (b ≡ Root (root a))
above_top (Root u) b top up = absurd (cc top)
above_top (Sub (Root u) n) b top up = ⊎_elim (λ same. inl same) (λ base. inr (sym (same_is (Root u) b base))) (on_up (Root u) n b up)
above_top (Sub (Sub a m) n) b top up = absurd (cc top)

last_in : (u : Uid) (e : End) (es : List (Uid × End)) → last_end es ≡ Some (u, e) → list.In {X = Uid × End} (u, e) es
last_in u e [] is = absurd (cc is)
last_in u e (f ∷ []) is = inl (let same : f ≡ (u, e) = cc is in same)
last_in u e (f ∷ g ∷ es) is = inr (last_in u e (g ∷ es) is)

module _ (c : Case) (s : Spot) (from : ℕ) (m : Message) (is_seen : IsSeenIn c (world_at s))
    (there : seen.In (record { from = from; to = s.node; message = m }) (let M = s.seen in M.sent)) where
  abbrev f : Fixed
  f = c.fixed

  abbrev S : State
  S = c.state

  abbrev v : View
  v = view_in c s.node

  whole : AreOneTree v.family
  whole = let a = is_seen.agrees in a.whole

  -- the action of the end
  own_over : (u : Uid) (e : End) → IsToldSo v S u e → IsOverIn (f.act u) S
  own_over u ending.Commit so = inl (let three = so.committed in omega (arith, three))
  own_over u ending.Abort (inl four) = inl (omega (arith, four))
  own_over u ending.Abort (inr (inl over)) = inr over.0
  own_over u ending.Abort (inr (inr top)) = inl (let three = top.1 in omega (arith, three))

  -- a root's end, for a top of its unit
  root_over : (u w : Uid) (e : End) → f.act w ≡ Root (root (f.act u)) → IsToldSo v S w e → IsOverIn (f.act u) S
  root_over u w ending.Commit base so = inr (sym (ap (λ (a : Act). (let b = S.action a in b.stage)) base) ∙ so.committed)
  root_over u w ending.Abort base (inl four) =
      absurd (let low = roots_low (let z = is_seen.sees in z.run) (start_low f.first) (Root (root (f.act u))) refl in
      let four_there = sym (ap (λ (a : Act). (let b = S.action a in b.stage)) base) ∙ four in omega (arith, low, four_there))
  root_over u w ending.Abort base (inr (inl over)) =
      inr (sym (ap (λ (a : Act). (let b = S.action (Root (root a)) in b.stage)) base) ∙ over.0)
  root_over u w ending.Abort base (inr (inr top)) = absurd (let bad : false ≡ true = sym (ap is_top base) ∙ top.0 in cc bad)

  -- whoever loses a row with it
  lost_over : (n : Naming) → KnowsNaming c s n → (u w : Uid) (e : End) → uid_eq u w ≡ false → naming.loses_row w u n ≡ true →
      is_top (f.act u) ≡ true → IsToldSo v S w e → IsOverIn (f.act u) S
  lost_over n knows u w e apart loses top so =
      let a = knows.lost w u apart loses in
      let up : on (f.act u) (f.act w) ≡ true = let l = whole.alike in
      l.above u w ∙ ap (λ us. is_on us w) (sym (ap f.paths a.2) ∙ whole.agree a.0 a.1) ∙ a.3 in
      ⊎_elim
      (λ same. own_over_at u w e (let l = whole.alike in l.one w u same) so)
      (λ base. root_over u w e base so)
      (above_top (f.act u) (f.act w) top up)
    where
      own_over_at : (u w : Uid) (e : End) → w ≡ u → IsToldSo v S w e → IsOverIn (f.act u) S
      own_over_at u w e same so = subst (λ (z : Uid). IsOverIn (f.act z) S) same (own_over w e so)

  module _ (o : Option Naming) (knows : (n : Naming) → o ≡ Some n → KnowsNaming c s n) where
    by_end : (e : Option (Uid × End)) → ((w : Uid) (g : End) → e ≡ Some (w, g) → IsToldSo v S w g) → (u : Uid) → ended_by o e u ≡ true →
        is_top (f.act u) ≡ true → IsOverIn (f.act u) S
    by_end None so u on top = absurd (cc on)
    by_end (Some (w, g)) so u on top = by o refl on
      where
        its : uid_eq u w ≡ true → IsOverIn (f.act u) S
        its same = subst (λ (z : Uid). IsOverIn (f.act z) S) (sym (uid_is u w same)) (own_over w g (so w g refl))

        by : (p : Option Naming) → o ≡ p → ended_by p (Some (w, g)) u ≡ true → IsOverIn (f.act u) S
        by None is on = its on
        by (Some n) is on = ⊎_elim its
            (λ lost. (let p = and_parts (not (uid_eq u w)) (naming.loses_row w u n) lost in
            lost_over n (knows n is) u w g (off (uid_eq u w) p.0) p.1 top (so w g refl)))
            (or_cases (uid_eq u w) (not (uid_eq u w) && naming.loses_row w u n) on)
          where
            off : (b : Bool) → not b ≡ true → b ≡ false
            off true is = absurd (cc is)
            off false is = refl

    told_so : (n : Message) → IsAskedSeen v (let M = s.seen in M.sent) (record { from = from; to = s.node; message = n }) S (asks n) →
        (w : Uid) (g : End) → last_end (told_in n) ≡ Some (w, g) → IsToldSo v S w g
    told_so (message.Told q) said w g is = said w g (in_to {X = Uid × End} (w, g) q.ends (last_in w g q.ends is))
    told_so _ said w g is = absurd (cc is)

    pub ended_over : (u : Uid) → ended_by o (last_end (told_in m)) u ≡ true → is_top (f.act u) ≡ true → IsOverIn (f.act u) S
    ended_over =
        by_end (last_end (told_in m)) (told_so m (let z = is_seen.sees in z.posts (record { from = from; to = s.node; message = m }) there))
