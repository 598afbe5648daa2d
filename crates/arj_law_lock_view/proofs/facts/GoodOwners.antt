-- Objects at naming stay good as actions begin: who owns whom changes of the new action alone.
use Rattle.arj_law_parts.proofs.Words
use Words.{◌≡◌, ◌⊎◌, ◌∙◌, ◌++◌, ◌||◌, ℕ, Bool, true, false, cond, List, [], ◌∷◌, Option, Some, None, refl, sym, ap, subst, inl, inr, ⊎_elim}
use Words.{Contains, ⊤, AllByRecursion, is_eq, Ordering, Less, Equal, Greater, false_from_ne_true, or_cases, uid_order, uid_is, In, in_from}
use Words.{Kind, Row, Uid, first_uid, is_on, last_uid, uid_eq, uids_of, Made, Named, at_uid, root_of}
use Words.kind
use Rattle.arj_law_lock_view.proofs.Terms
use Terms.{Action, AreBegun, Stands, act_of, owner_in, owners_of, IsTopAction, IsGoodObject, AreGoodRows, Told, IsHolder, IsTop, on_own}
use Terms.{one_action, serial_alone, where_stands, order_exact, AreUpper, AsTops, HaveUpper, IsTopOf}
use Rattle.arj_law_lock_view.proofs.facts.UpperWalks.{top_more}
use Rattle.arj_law_parts.specs.parts.Tops.{stands_above}

-- ---- who owns whom

-- who owns another one is a serializing action
owner_cases : (acts : List Action) (u : Uid) →
    (owners_of acts u ≡ u) ⊎ ((a : Action) × In a acts × (a.kind ≡ kind.Constituent) × (act_of a ≡ u) × (owners_of acts u ≡ root_of a.path))
owner_cases [] u = inl refl
owner_cases (a ∷ acts) u = by (uid_eq (act_of a) u) refl (owner_cases acts u)
  where
    Cases : Bool → Type 0
    Cases b = (cond b (owner_in a a.kind) (owners_of acts u) ≡ u) ⊎ ((d : Action) × In d (a ∷ acts) × (d.kind ≡ kind.Constituent)
        × (act_of d ≡ u) × (cond b (owner_in a a.kind) (owners_of acts u) ≡ root_of d.path))

    own : (k : Kind) → a.kind ≡ k → act_of a ≡ u → Cases true
    own kind.Constituent is same = inr (a, inl refl, is, same, ap (owner_in a) is)
    own kind.Nested is same = inl (ap (owner_in a) is ∙ same)
    own kind.Top is same = inl (ap (owner_in a) is ∙ same)
    own kind.Serial is same = inl (ap (owner_in a) is ∙ same)
    own kind.Independent is same = inl (ap (owner_in a) is ∙ same)

    by : (b : Bool) → uid_eq (act_of a) u ≡ b → (owners_of acts u ≡ u)
        ⊎ ((d : Action) × In d acts × (d.kind ≡ kind.Constituent) × (act_of d ≡ u) × (owners_of acts u ≡ root_of d.path)) → Cases b
    by true same ih = own a.kind refl (uid_is (act_of a) u same)
    by false other (inl ih) = inl ih
    by false other (inr (d, i, is, same, e)) = inr (d, inr i, is, same, e)

constituent_root : (acts : List Action) → AreBegun acts → (a : Action) → In a acts → a.kind ≡ kind.Constituent →
    (s : Action) × In s acts × (s.kind ≡ kind.Serial) × (root_of a.path ≡ act_of s)
constituent_root acts begun a i is =
    let s : Stands acts a kind.Constituent = subst (Stands acts a) is (where_stands acts begun a i) in
    let up = serial_alone acts begun s.0 (in_from s.0 acts s.1) s.2 in
    (s.0, in_from s.0 acts s.1, s.2, ap first_uid (s.3 ∙ ap (λ us. us ++ act_of a ∷ []) up.0))

-- a top owns no other action
pub owns_none : (acts : List Action) → AreBegun acts → (t : Uid) → IsTopOf acts t → IsTop (owners_of acts) t
owns_none acts begun t its w is = by (owner_cases acts w)
  where
    by : (owners_of acts w ≡ w)
        ⊎ ((a : Action) × In a acts × (a.kind ≡ kind.Constituent) × (act_of a ≡ w) × (owners_of acts w ≡ root_of a.path)) → w ≡ t
    by (inl own) = sym own ∙ is
    by (inr (d, i, const, same, e)) =
        let s = constituent_root acts begun d i const in
        absurd (its.4
        (ap (λ (z : Action). z.kind) (one_action acts begun its.0 s.0 (in_from its.0 acts its.1) s.1 (its.2 ∙ sym is ∙ e ∙ s.3)) ∙ s.2))

-- who was begun isn't the new action
begun_apart : (a : Action) (acts : List Action) → AreBegun (a ∷ acts) → (b : Action) → Contains acts b →
    uid_eq (act_of a) (act_of b) ≡ false
begun_apart a acts begun b i = false_from_ne_true (uid_eq (act_of a) (act_of b)) (λ same. let r = begun.0 in let no_way : true ≡ false = sym
    (on_own b.path) ∙ ap (is_on (uids_of b.path)) (sym (uid_is (act_of a) (act_of b) same)) ∙ r.new b i in cc no_way)

pub owner_same : (a : Action) (acts : List Action) → AreBegun (a ∷ acts) → (u : Uid) → IsTopAction acts u →
    owners_of (a ∷ acts) u ≡ owners_of acts u
owner_same a acts begun u its =
    λ j. cond ((ap (uid_eq (act_of a)) (sym its.2) ∙ begun_apart a acts begun its.0 its.1) j) (owner_in a a.kind) (owners_of acts u)

-- ---- lists of tops

pub top_on : (acts : List Action) (us : List Uid) (u : Uid) → AllByRecursion (IsTopOf acts) us → is_on us u ≡ true → IsTopOf acts u
top_on acts [] u all on = absurd (cc on)
top_on acts (v ∷ vs) u all on = ⊎_elim (λ here. subst (IsTopOf acts) (uid_is v u here) all.0) (λ rest. top_on acts vs u all.1 rest)
    (or_cases (uid_eq v u) (is_on vs u) on)

pub top_at : (acts : List Action) (ms : List (Uid × Made)) (t : Uid) (m : Made) →
    AllByRecursion (λ (e : Uid × Made). IsTopOf acts e.0 × ⊤) ms → at_uid t ms ≡ Some m → IsTopOf acts t
top_at acts [] t m all is = let no_way : ◌≡◌ {A = Option Made} None (Some m) = is in absurd (cc no_way)
top_at acts (e ∷ es) t m all is = by (uid_order t e.0) refl is (top_at acts es t m all.1)
  where
    by : (r : Ordering) → uid_order t e.0 ≡ r → cond (is_eq r) (Some e.1) (at_uid t es) ≡ Some m →
        (at_uid t es ≡ Some m → IsTopOf acts t) → IsTopOf acts t
    by Less order at ih = ih at
    by Equal order at ih = subst (IsTopOf acts) (sym (order_exact t e.0 order)) all.0.0
    by Greater order at ih = ih at

upper_top : (acts : List Action) (u : Uid) → IsTopOf acts u → IsTopAction acts u
upper_top acts u its = (its.0, its.1, its.2, its.3)

-- ---- one more action

module _ (a : Action) (acts : List Action) (begun : AreBegun (a ∷ acts)) (told : Told) where
  last_upper : (us : List Uid) (h : Uid) → us ≡ h ∷ last_uid us ∷ [] → AreUpper acts us → IsTopAction acts (last_uid us)
  last_upper us h is all = (subst (AreUpper acts) is all).1.0

  -- the last one of a holder's path was begun
  last_begun : (us : List Uid) → IsHolder (owners_of acts) us → AreUpper acts us → IsTopAction acts (last_uid us)
  last_begun us (inl own) all = (subst (AreUpper acts) own all).0
  last_begun us (inr own) all = last_upper us (owners_of acts (last_uid us)) own.0 all

  holder_more : (us : List Uid) → AreUpper acts us → IsHolder (owners_of acts) us → IsHolder (owners_of (a ∷ acts)) us
  holder_more us all its = by its
    where
      same : owners_of acts (last_uid us) ≡ owners_of (a ∷ acts) (last_uid us)
      same = sym (owner_same a acts begun (last_uid us) (last_begun us its all))

      by : IsHolder (owners_of acts) us → IsHolder (owners_of (a ∷ acts)) us
      by (inl own) = inl own
      by (inr own) = inr (own.0 ∙ ap (λ w. w ∷ last_uid us ∷ []) same, ap (λ w. uid_eq w (last_uid us)) (sym same) ∙ own.1)

  rows_more : (x : ℕ) (rows : List Row) → HaveUpper acts rows → AreGoodRows (owners_of acts) told x rows →
      AreGoodRows (owners_of (a ∷ acts)) told x rows
  rows_more x rows upper good = record {
    objects = good.objects;
    holders = λ r i. holder_more r.holder (upper r i) (good.holders r i);
    apart =
        λ r s i j object conflicts. ⊎_elim (λ up. inl (above r s i up)) (λ up. inr (above s r j up)) (good.apart r s i j object conflicts);
    one = good.one;
    none = good.none;
  }
    where
      above : (r s : Row) → Contains rows r → stands_above (owners_of acts) (last_uid r.holder) (last_uid s.holder) ≡ true →
          stands_above (owners_of (a ∷ acts)) (last_uid r.holder) (last_uid s.holder) ≡ true
      above r s i up = ap (λ w. uid_eq (last_uid s.holder) (last_uid r.holder) || uid_eq (last_uid s.holder) w)
          (owner_same a acts begun (last_uid r.holder) (last_begun r.holder (good.holders r i) (upper r i))) ∙ up

  pub object_more : (inc count x : ℕ) (o : Named) → HaveUpper acts o.rows → AsTops acts o →
      IsGoodObject (owners_of acts) told inc count x o → IsGoodObject (owners_of (a ∷ acts)) told inc count x o
  object_more inc count x o upper tops good = record {
    rows = rows_more x o.rows upper good.rows;
    sorted = good.sorted;
    unmade = good.unmade;
    unasked = good.unasked;
    asked = λ t on unended.
        good.asked t on (ap told (sym (owner_same a acts begun t (upper_top acts t (top_on acts o.asked t tops.asked on)))) ∙ unended);
    made = λ t m found. let h = good.made t m found in
        (owns_none (a ∷ acts) begun t (top_more a acts t (top_at acts o.made t m tops.made found)), h.1);
    recorded = good.recorded;
    live = good.live;
    unrecorded = λ t m found not_yet unended. good.unrecorded t m found not_yet
        (ap told (sym (owner_same a acts begun t (upper_top acts t (top_at acts o.made t m tops.made found)))) ∙ unended);
  }

  pub tops_more : (o : Named) → AsTops acts o → AsTops (a ∷ acts) o
  tops_more o its = record { made = made o.made its.made; asked = asked o.asked its.asked }
    where
      made : (ms : List (Uid × Made)) → AllByRecursion (λ (e : Uid × Made). IsTopOf acts e.0 × ⊤) ms →
          AllByRecursion (λ (e : Uid × Made). IsTopOf (a ∷ acts) e.0 × ⊤) ms
      made [] all = tt
      made (m ∷ ms) all = ((top_more a acts m.0 all.0.0, tt), made ms all.1)

      asked : (us : List Uid) → AllByRecursion (IsTopOf acts) us → AllByRecursion (IsTopOf (a ∷ acts)) us
      asked [] all = tt
      asked (u ∷ us) all = (top_more a acts u all.0, asked us all.1)
