-- Overlays at a copy and the machine's log of writes, where an action ends.
use Rattle.arj_law_parts.proofs.Words
use Words.{◌≡◌, ◌⊎◌, ◌∙◌, ◌++◌, not, ℕ, List, [], ◌∷◌, Bool, true, false, cond, filter, map, Some, None, refl, sym, ap, subst, inl, inr}
use Words.{AllByRecursion, map-append, uid_is, uid_same, in_to, Uid, is_on, last_uid, uid_eq, Base, Copy, Over, is_of, over_of, undone}
use Words.list as over
use Rattle.arj_law_lock_view.proofs.Terms
use Terms.{Act, In, Sub, on, same, handed, Entry, State, IsFolded, held_value, on_self, same_is, same_self, Paths, Acts, AreOne, IsDeep}
use Terms.{IsCommitting, value_in, maker_in, AreHeld, Codes, IsOver, SeesOvers, base_code}

-- ---- who holds a write

of_both : (e : Entry) (es fs : List Entry) → In e (es ++ fs) → In e es ⊎ In e fs
of_both e [] fs i = inr i
of_both e (x ∷ es) fs (inl is) = inl (inl is)
of_both e (x ∷ es) fs (inr i) = elim (of_both e es fs i) [ inl j ↦ inl (inr j) | inr j ↦ inr j ]

holder_is : (a : Act) (es : List Entry) → AreHeld a es → (e : Entry) → In e es → e.holder ≡ a
holder_is a [] held e i = absurd i
holder_is a (x ∷ es) held e (inl is) = ap (λ (y : Entry). y.holder) is ∙ held.0
holder_is a (x ∷ es) held e (inr i) = holder_is a es held.1 e i

-- each write is held for an overlay
pub held_for : (act : Acts) (code : Codes) (stack : List Over) (log : List Entry) → SeesOvers act code stack log → (e : Entry) → In e log →
    (o : Over) × over.In o stack × (e.holder ≡ act (last_uid o.holder))
held_for act code [] log none e i = absurd (subst (In e) none i)
held_for act code (o ∷ os) log sees e i = by (held_for act code os sees.1 sees.4 e) (of_both e sees.0 sees.1 (subst (In e) sees.2 i))
  where
    of : IsOver act code o sees.0
    of = sees.3

    by : (In e sees.1 → (q : Over) × over.In q os × (e.holder ≡ act (last_uid q.holder))) → In e sees.0 ⊎ In e sees.1 →
        (q : Over) × over.In q (o ∷ os) × (e.holder ≡ act (last_uid q.holder))
    by rest (inl j) = (o, inl refl, holder_is (act (last_uid o.holder)) sees.0 of.held e j)
    by rest (inr j) = let f = rest j in (f.0, inr f.1, f.2)

-- each overlay is as deep as its path
pub over_deep : (act : Acts) (code : Codes) (stack : List Over) (log : List Entry) → SeesOvers act code stack log → (o : Over) →
    over.In o stack → IsDeep act o.holder o.tops
over_deep act code [] log none o i = absurd i
over_deep act code (q ∷ os) log sees o (inl is) =
    subst (λ (p : Over). IsDeep act p.holder p.tops) is (let v : IsOver act code q sees.0 = sees.3 in v.deep)
over_deep act code (q ∷ os) log sees o (inr i) = over_deep act code os sees.1 sees.4 o i

-- another action's path in the machine is another one
pub other_act : (act : Acts) → AreOne act → (w u : Uid) → uid_eq w u ≡ false → same (act w) (act u) ≡ false
other_act act one w u other = by (same (act w) (act u)) refl
  where
    by : (b : Bool) → same (act w) (act u) ≡ b → b ≡ false
    by true is = absurd (cc (sym (ap (λ (v : Uid). uid_eq v u) (one w u (same_is (act w) (act u) is)) ∙ uid_same u) ∙ other))
    by false is = refl

-- ---- the value that an action holds

held_skip : (a h : Act) (base : ℕ) (own rest : List Entry) → AreHeld h own → same h a ≡ false →
    held_value a base (own ++ rest) ≡ held_value a base rest
held_skip a h base [] rest held off = refl
held_skip a h base (e ∷ es) rest held off =
    (λ i. cond (same (held.0 i) a) e.gives (held_value a base (es ++ rest))) ∙ (λ i. cond (off i) e.gives (held_value a base (es ++ rest)))
    ∙ held_skip a h base es rest held.1 off

module _ (act : Acts) (one : AreOne act) (code : Codes) (u : Uid) (b : Base) (base : ℕ) (under : base ≡ base_code act code b) where
  pub held_seen : (stack : List Over) (log : List Entry) → SeesOvers act code stack log →
      held_value (act u) base log ≡ code (value_in b (over_of u stack)) (maker_in act b (over_of u stack))
  held_seen [] log none = ap (held_value (act u) base) none ∙ under
  held_seen (o ∷ os) log sees = ap (held_value (act u) base) sees.2 ∙ by (is_of u o) refl (held_seen os sees.1 sees.4)
    where
      of : IsOver act code o sees.0
      of = sees.3

      by : (w : Bool) → is_of u o ≡ w → held_value (act u) base sees.1 ≡ code (value_in b (over_of u os)) (maker_in act b (over_of u os)) →
          held_value (act u) base (sees.0 ++ sees.1)
          ≡ code (value_in b (cond w (Some o) (over_of u os))) (maker_in act b (cond w (Some o) (over_of u os)))
      by true is rest =
          let its = subst (AreHeld (act (last_uid o.holder))) of.are of.held in
          let mine : same of.newest.holder (act u) ≡ true = ap (λ (a : Act). same a (act u))
          (its.0 ∙ ap act (uid_is (last_uid o.holder) u is)) ∙ same_self (act u) in
          ap (λ (es : List Entry). held_value (act u) base (es ++ sees.1)) of.are
          ∙ (λ i. cond (mine i) of.newest.gives (held_value (act u) base (of.older ++ sees.1))) ∙ of.value
      by false is rest =
          held_skip (act u) (act (last_uid o.holder)) base sees.0 sees.1 of.held (other_act act one (last_uid o.holder) u is) ∙ rest

-- ---- an action no descendant of which has a lock

module _ (act : Acts) (paths : Paths) (x : ℕ) (u : Uid) (c : Copy) (ends : IsCommitting act paths x u c) where
  -- an overlay at or below it is its own
  pub lowest_over : (o : Over) → over.In o c.stack → is_on o.holder u ≡ true → last_uid o.holder ≡ u
  lowest_over o i above =
      let g = ends.good.guard o (in_to o c.stack i) in
      let same_path : g.0.holder ≡ o.holder = ends.good.holders g.0 g.1 ∙ ap paths g.2 ∙ sym (ends.good.overs o (in_to o c.stack i)) in
      sym g.2 ∙ ends.lowest g.0 g.1 (ap (λ (us : List Uid). is_on us u) same_path ∙ above)

  told_at : (stack : List Over) → AllByRecursion (λ (o : Over). is_on o.holder u ≡ on (act (last_uid o.holder)) (act u)) stack →
      (o : Over) → over.In o stack → is_on o.holder u ≡ on (act (last_uid o.holder)) (act u)
  told_at (q ∷ os) all o (inl is) = subst (λ (p : Over). is_on p.holder u ≡ on (act (last_uid p.holder)) (act u)) is all.0
  told_at (q ∷ os) all o (inr i) = told_at os all.1 o i
  told_at [] all o i = absurd i

  -- and so is each write
  pub below_own : (code : Codes) (log : List Entry) → SeesOvers act code c.stack log → (e : Entry) → In e log → on e.holder (act u) ≡ true →
      e.holder ≡ act u
  below_own code log sees e i above =
      let f = held_for act code c.stack log sees e i in
      f.2 ∙ ap act (lowest_over f.0 f.1 (told_at c.stack ends.told.overs f.0 f.1 ∙ ap (λ (a : Act). on a (act u)) (sym f.2) ∙ above))

  pub folded_here : (code : Codes) (S : State) (log : List Entry) → SeesOvers act code c.stack log → IsFolded S log (act u)
  folded_here code S log sees e i above = inl (below_own code log sees e i above)

  -- without its own overlay there is none at or below it
  pub own_undone : (stack : List Over) → ((o : Over) → over.In o stack → over.In o c.stack) →
      filter (λ (o : Over). not (is_of u o)) stack ≡ undone u stack
  own_undone [] there = refl
  own_undone (o ∷ os) there = by (is_of u o) (is_on o.holder u) refl refl (own_undone os (λ q i. there q (inr i)))
    where
      by : (p q : Bool) → is_of u o ≡ p → is_on o.holder u ≡ q → filter (λ (r : Over). not (is_of u r)) os ≡ undone u os →
          cond (not p) (o ∷ filter (λ (r : Over). not (is_of u r)) os) (filter (λ (r : Over). not (is_of u r)) os)
          ≡ cond (not q) (o ∷ undone u os) (undone u os)
      by true true own above rest = rest
      by false false own above rest = ap (λ (qs : List Over). o ∷ qs) rest
      by true false own above rest =
          absurd (let self = on_self (act u) in cc (sym self ∙ ap (λ (w : Uid). on (act w) (act u)) (sym (uid_is (last_uid o.holder) u own))
          ∙ sym (told_at c.stack ends.told.overs o (there o (inl refl))) ∙ above))
      by false true own above rest =
          absurd (let self = uid_same u in
          cc (sym self ∙ ap (λ (w : Uid). uid_eq w u) (sym (lowest_over o (there o (inl refl)) above)) ∙ own))

-- who has no overlay loses none
pub none_undone : (u : Uid) (stack : List Over) → over_of u stack ≡ None → filter (λ (o : Over). not (is_of u o)) stack ≡ stack
none_undone u [] none = refl
none_undone u (o ∷ os) none = by (is_of u o) none (none_undone u os)
  where
    by : (b : Bool) → cond b (Some o) (over_of u os) ≡ None → (over_of u os ≡ None → filter (λ (q : Over). not (is_of u q)) os ≡ os) →
        cond (not b) (o ∷ filter (λ (q : Over). not (is_of u q)) os) (filter (λ (q : Over). not (is_of u q)) os) ≡ o ∷ os
    by true some rest = absurd (cc some)
    by false other rest = ap (λ (qs : List Over). o ∷ qs) (rest other)

-- ---- writes that are handed to the action above

module _ (act : Acts) (one : AreOne act) (u : Uid) (a : Act) (number : ℕ) (below : act u ≡ Sub a number) where
  -- all go
  pub all_handed : (own : List Entry) → AreHeld (act u) own → AreHeld a (map (handed a number) own)
  all_handed [] held = tt
  all_handed (e ∷ es) held = (
    (λ i. cond (same ((held.0 ∙ below) i) (Sub a number)) a e.holder) ∙ (λ i. cond (same_self (Sub a number) i) a e.holder),
    all_handed es held.1,
  )

  -- or none
  none_handed : (h : Act) (own : List Entry) → AreHeld h own → same h (act u) ≡ false → map (handed a number) own ≡ own
  none_handed h [] held off = refl
  none_handed h (e ∷ es) held off =
      let stays : same e.holder (Sub a number) ≡ false = (λ i. same (held.0 i) (sym below i)) ∙ off in
      (λ i. record e { holder = cond (stays i) a e.holder } ∷ map (handed a number) es)
      ∙ ap (λ (fs : List Entry). e ∷ fs) (none_handed h es held.1 off)

  -- overlays of others stay
  pub others_handed : (code : Codes) (stack : List Over) (log : List Entry) →
      ((o : Over) → over.In o stack → uid_eq (last_uid o.holder) u ≡ false) → SeesOvers act code stack log → map (handed a number) log ≡ log
  others_handed code [] log others none = ap (map (handed a number)) none ∙ sym none
  others_handed code (o ∷ os) log others sees =
      let of : IsOver act code o sees.0 = sees.3 in
      ap (map (handed a number)) sees.2 ∙ map-append (handed a number) sees.0 sees.1
      ∙ (λ i. none_handed (act (last_uid o.holder)) sees.0 of.held (other_act act one (last_uid o.holder) u (others o (inl refl))) i
      ++ others_handed code os sees.1 (λ q j. others q (inr j)) sees.4 i)
      ∙ sym sees.2

-- nothing goes where all stay
pub all_kept : {X : Type 0} (p : X → Bool) (xs : List X) → AllByRecursion (λ (y : X). p y ≡ true) xs → filter p xs ≡ xs
all_kept p [] all = refl
all_kept {X} p (y ∷ ys) all = (λ i. cond (all.0 i) (y ∷ filter p ys) (filter p ys)) ∙ ap (λ (zs : List X). y ∷ zs) (all_kept p ys all.1)
