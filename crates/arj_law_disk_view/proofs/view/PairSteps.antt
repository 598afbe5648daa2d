-- What work on a pair does to the place of one object.
use Rattle.arj_law_parts.proofs.Words
use Words.{◌≡◌, ◌≢◌, ◌⊎◌, ℕ, List, [], ◌∷◌, Bool, true, false, Option, Some, None, refl, sym, ◌∙◌, ap, subst, inl, inr, ⊎_elim, arith}
use Words.{option_map, if◌then◌else◌, uid_cases, Uid, ObjectState, Pair, moved_some, new_states, pair_prepared, pair_committed}
use Words.{pair_aborted, pair_in_part, at_uid, put_uid, without_uid, uid_number, number_tells}
use Rattle.arj_law_disk_view.proofs.Terms.{moved, Packed, Hold, Among, IsOf, hold_of, Holder, SeesPair, AreOne, HasNone}
use Rattle.arj_law_disk_view.proofs.view.Keys.{put_same, put_other, put_cases, without_other, without_cases, sorted_put, sorted_without}

-- ---- lists of states

-- a list has a state of the object or not
pub of_cases : (u : Uid) (states : List ObjectState) → ((s : ObjectState) × IsOf u states s) ⊎ HasNone u states
of_cases u [] = inr (λ s h. absurd h.0)
of_cases u (t ∷ ts) = ⊎_elim (λ same. inl (t, (inl refl, same))) (λ other. ⊎_elim (λ f. inl (f.0, (inr f.1.0, f.1.1))) (λ none. inr (λ s h.
    ⊎_elim (λ e. other (ap (λ (x : ObjectState). x.uid) e ∙ h.1)) (λ more. none s (more, h.1)) h.0)) (of_cases u ts)) (uid_cases t.uid u)

-- the states that are put in their places: another object's place stays
pub moved_none : (u : Uid) (states : List ObjectState) (held : List (Uid × ObjectState)) → HasNone u states →
    at_uid u (moved states held) ≡ at_uid u held
moved_none u [] held none = refl
moved_none u (s ∷ ss) held none =
    moved_none u ss (put_uid s.uid s held) (λ t h. none t (inr h.0, h.1)) ∙ put_other u s.uid s held (λ same. none s (inl refl, sym same))

-- the object's place gets one of its states
pub moved_one : (u : Uid) (states : List ObjectState) (s : ObjectState) (held : List (Uid × ObjectState)) → IsOf u states s →
    (t : ObjectState) × IsOf u states t × (at_uid u (moved states held) ≡ Some t)
moved_one u [] s held of = absurd of.0
moved_one u (t ∷ ts) s held of = by (of_cases u ts) (moved_one u ts) of.0
  where
    here : HasNone u ts → t.uid ≡ u → at_uid u (moved ts (put_uid t.uid t held)) ≡ Some t
    here none same =
        moved_none u ts (put_uid t.uid t held) none ∙ ap (λ k. at_uid k (put_uid t.uid t held)) (sym same) ∙ put_same t.uid t held

    by : ((r : ObjectState) × IsOf u ts r) ⊎ HasNone u ts → ((r : ObjectState) (held : List (Uid × ObjectState)) → IsOf u ts r →
        (q : ObjectState) × IsOf u ts q × (at_uid u (moved ts held) ≡ Some q)) → (t ≡ s) ⊎ Among s ts
        → (q : ObjectState) × IsOf u (t ∷ ts) q × (at_uid u (moved ts (put_uid t.uid t held)) ≡ Some q)
    by (inl r) ih among = let q = ih r.0 (put_uid t.uid t held) r.1 in (q.0, (inr q.1.0, q.1.1), q.2)
    by (inr none) ih (inl same) = let it : t.uid ≡ u = ap (λ (x : ObjectState). x.uid) same ∙ of.1 in (t, (inl refl, it), here none it)
    by (inr none) ih (inr more) = absurd (none s (more, of.1))

-- some of them: an object that passes gets one of its states, another one's place stays
pub moved_some_none : (which : Uid → Bool) (u : Uid) (states : List ObjectState) (held : List (Uid × ObjectState)) →
    HasNone u states ⊎ (which u ≡ false) → at_uid u (moved_some which states held) ≡ at_uid u held
moved_some_none which u [] held none = refl
moved_some_none which u (s ∷ ss) held none = by (which s.uid) refl (moved_some_none which u ss) (uid_cases s.uid u)
  where
    rest : HasNone u (s ∷ ss) ⊎ (which u ≡ false) → HasNone u ss ⊎ (which u ≡ false)
    rest (inl n) = inl (λ t h. n t (inr h.0, h.1))
    rest (inr n) = inr n

    never : HasNone u (s ∷ ss) ⊎ (which u ≡ false) → s.uid ≡ u → which s.uid ≡ true → ⊥
    never (inl n) same is = n s (inl refl, same)
    never (inr n) same is = let e : true ≡ false = sym is ∙ ap which same ∙ n in cc

    by : (b : Bool) → which s.uid ≡ b → ((held : List (Uid × ObjectState)) → HasNone u ss ⊎ (which u ≡ false) →
        at_uid u (moved_some which ss held) ≡ at_uid u held) → (s.uid ≡ u) ⊎ (s.uid ≢ u)
        → at_uid u (moved_some which ss (if b then put_uid s.uid s held else held)) ≡ at_uid u held
    by false is ih same = ih held (rest none)
    by true is ih (inl same) = absurd (never none same is)
    by true is ih (inr other) = ih (put_uid s.uid s held) (rest none) ∙ put_other u s.uid s held (λ e. other (sym e))

pub moved_some_one : (which : Uid → Bool) (u : Uid) (states : List ObjectState) (s : ObjectState) (held : List (Uid × ObjectState)) →
    which u ≡ true → IsOf u states s
    → (t : ObjectState) × IsOf u states t × (at_uid u (moved_some which states held) ≡ Some t)
moved_some_one which u [] s held is of = absurd of.0
moved_some_one which u (t ∷ ts) s held is of = by (of_cases u ts) (moved_some_one which u ts) of.0
  where
    next : List (Uid × ObjectState)
    next = if which t.uid then put_uid t.uid t held else held

    here : HasNone u ts → t.uid ≡ u → at_uid u (moved_some which ts next) ≡ Some t
    here none same =
        moved_some_none which u ts next (inl none)
        ∙ ap (λ (b : Bool). at_uid u (if b then put_uid t.uid t held else held)) (ap which same ∙ is)
        ∙ ap (λ k. at_uid k (put_uid t.uid t held)) (sym same) ∙ put_same t.uid t held

    by : ((r : ObjectState) × IsOf u ts r) ⊎ HasNone u ts → ((r : ObjectState) (held : List (Uid × ObjectState)) → which u ≡ true →
        IsOf u ts r → (q : ObjectState) × IsOf u ts q × (at_uid u (moved_some which ts held) ≡ Some q)) → (t ≡ s) ⊎ Among s ts
        → (q : ObjectState) × IsOf u (t ∷ ts) q × (at_uid u (moved_some which ts next) ≡ Some q)
    by (inl r) ih among = let q = ih r.0 next is r.1 in (q.0, (inr q.1.0, q.1.1), q.2)
    by (inr none) ih (inl same) = let it : t.uid ≡ u = ap (λ (x : ObjectState). x.uid) same ∙ of.1 in (t, (inl refl, it), here none it)
    by (inr none) ih (inr more) = absurd (none s (more, of.1))

-- each state stands under its own object
abbrev AreKeyed : List (Uid × ObjectState) → Type 0
AreKeyed held = (w : Uid) (s : ObjectState) → at_uid w held ≡ Some s → s.uid ≡ w

put_keyed : (t : ObjectState) (held : List (Uid × ObjectState)) → AreKeyed held → AreKeyed (put_uid t.uid t held)
put_keyed t held keyed w s is =
    ⊎_elim (λ same. ap (λ (q : ObjectState). q.uid) (sym same.1) ∙ sym same.0) (λ other. keyed w s other.1) (put_cases w t.uid t s held is)

moved_keyed : (states : List ObjectState) (held : List (Uid × ObjectState)) → AreKeyed held → AreKeyed (moved states held)
moved_keyed [] held keyed = keyed
moved_keyed (t ∷ ts) held keyed = moved_keyed ts (put_uid t.uid t held) (put_keyed t held keyed)

some_keyed : (which : Uid → Bool) (states : List ObjectState) (held : List (Uid × ObjectState)) → AreKeyed held →
    AreKeyed (moved_some which states held)
some_keyed which [] held keyed = keyed
some_keyed which (t ∷ ts) held keyed = some_keyed which ts (if which t.uid then put_uid t.uid t held else held) (by (which t.uid))
  where
    by : (b : Bool) → AreKeyed (if b then put_uid t.uid t held else held)
    by true = put_keyed t held keyed
    by false = keyed

-- ---- a pair

module _ (pack : ObjectState →
    Packed) (u : Uid) (d : Pair) (held : Option Packed) (pend : Option Hold) (sees : SeesPair pack u d held pend) where
  -- what is held after states are moved
  held_one : (states : List ObjectState) (p : Packed) (now : List (Uid × ObjectState)) → AreOne pack u states p →
      (t : ObjectState) × IsOf u states t × (at_uid u now ≡ Some t) → option_map pack (at_uid u now) ≡ Some p
  held_one states p now one f = ap (λ o. option_map pack o) f.2 ∙ ap Some (one f.0 f.1)

  -- one who is prepared for the object is the machine's holder
  pub one_holder : (a : Uid) (states : List ObjectState) (h : Hold) → at_uid a d.pend ≡ Some states → pend ≡ Some h →
      AreOne pack u states h.new
  one_holder a states h is there s of = let e : ◌≡◌ {A = Option Hold} (Some (hold_of pack a s)) (Some h) = sym
      (sees.held_by a states s is of) ∙ there in let f : hold_of pack a s ≡ h = cc in ap (λ (x : Hold). x.new) f

  -- nothing of the object is prepared: no action has a state of it
  pub none_held : pend ≡ None → (a : Uid) (states : List ObjectState) → at_uid a d.pend ≡ Some states → HasNone u states
  none_held free a states is s of =
      let e : ◌≡◌ {A = Option Hold} None (Some (hold_of pack a s)) = sym free ∙ sees.held_by a states s is of in cc

  -- ---- a prepare

  pub prepares : (act : Uid) (states : List ObjectState) (p : Packed) → at_uid act d.pend ≡ None → pend ≡ None → (s : ObjectState) →
      IsOf u states s → AreOne pack u states p
      → SeesPair pack u (pair_prepared act states d) held (Some (record { top = uid_number act; new = p }))
  prepares act states p new free s of one = record {
    sorted = sorted_put act states d.pend sees.sorted;
    keyed = sees.keyed;
    held_is = sees.held_is;
    holder = λ h is. record {
      action = act;
      states = states;
      state = s;
      prepared = put_same act states d.pend;
      of = of;
      is = (λ i. record { top = uid_number act; new = one s of i }) ∙ (let e : record { top = uid_number act; new = p } ≡ h = cc in e);
    };
    held_by = λ a ss t is of. ⊎_elim
        (λ same. λ i. Some (record { top = uid_number (sym same.0 i); new = sym (one t (subst (λ x. IsOf u x t) (sym same.1) of)) i }))
        (λ other. absurd (none_held free a ss other.1 t of))
        (put_cases a act states ss d.pend is);
  }

  pub prepares_none : (act : Uid) (states : List ObjectState) → at_uid act d.pend ≡ None → HasNone u states →
      SeesPair pack u (pair_prepared act states d) held pend
  prepares_none act states new none = record {
    sorted = sorted_put act states d.pend sees.sorted;
    keyed = sees.keyed;
    held_is = sees.held_is;
    holder = λ h is. by h (sees.holder h is);
    held_by = λ a ss t is of. ⊎_elim (λ same. absurd (none t (subst (λ x. IsOf u x t) (sym same.1) of)))
        (λ other. sees.held_by a ss t other.1 of) (put_cases a act states ss d.pend is);
  }
    where
      by : (h : Hold) → Holder pack u d h → Holder pack u (pair_prepared act states d) h
      by h f = record {
        action = f.action;
        states = f.states;
        state = f.state;
        prepared = put_other f.action act states d.pend (λ same. let e : ◌≡◌ {A = Option (List ObjectState)} None (Some f.states) = sym new
            ∙ ap (λ k. at_uid k d.pend) (sym same) ∙ f.prepared in cc) ∙ f.prepared;
        of = f.of;
        is = f.is;
      }

  -- ---- an end

  -- another action's holder stays when one is taken out
  others_hold : (act : Uid) (h : Hold) → (h.top ≡ uid_number act → ⊥) → Holder pack u d h → (now : List (Uid × ObjectState)) →
      Holder pack u (record { held = now; pend = without_uid act d.pend }) h
  others_hold act h other f now = record {
    action = f.action;
    states = f.states;
    state = f.state;
    prepared = without_other f.action act d.pend (λ same. other (sym (ap (λ (x : Hold). x.top) f.is) ∙ ap uid_number same)) ∙ f.prepared;
    of = f.of;
    is = f.is;
  }

  -- the action's states are out: what it had prepared of the object goes
  ends_own : (act : Uid) (h : Hold) (now : List (Uid × ObjectState)) (new : Option Packed) → AreKeyed now → pend ≡ Some h →
      h.top ≡ uid_number act → option_map pack (at_uid u now) ≡ new
      → SeesPair pack u (record { held = now; pend = without_uid act d.pend }) new None
  ends_own act h now new keyed there own is = record {
    sorted = sorted_without act d.pend sees.sorted;
    keyed = keyed;
    held_is = is;
    holder = λ g e. absurd (cc e);
    held_by = λ a ss t at of.
        let f = without_cases a act ss d.pend sees.sorted at in
        let e : ◌≡◌ {A = Option Hold} (Some (hold_of pack a t)) (Some h) = sym (sees.held_by a ss t f.1 of) ∙ there in
        let same : hold_of pack a t ≡ h = cc in
        absurd (f.0 (number_tells a act (ap (λ (x : Hold). x.top) same ∙ own)));
  }

  ends_other : (act : Uid) (now : List (Uid × ObjectState)) (new : Option Packed) → AreKeyed now →
      ((h : Hold) → pend ≡ Some h → h.top ≡ uid_number act → ⊥) → option_map pack (at_uid u now) ≡ new
      → SeesPair pack u (record { held = now; pend = without_uid act d.pend }) new pend
  ends_other act now new keyed other is = record {
    sorted = sorted_without act d.pend sees.sorted;
    keyed = keyed;
    held_is = is;
    holder = λ h e. others_hold act h (other h e) (sees.holder h e) now;
    held_by = λ a ss t at of. sees.held_by a ss t (without_cases a act ss d.pend sees.sorted at).1 of;
  }

  -- the states of an action that is prepared
  states_are : (act : Uid) (states : List ObjectState) → at_uid act d.pend ≡ Some states → new_states act d ≡ states
  states_are act states is = rw is refl

  -- of the holder's own states one is of the object
  pub own_state : (act : Uid) (states : List ObjectState) (h : Hold) → at_uid act d.pend ≡ Some states → pend ≡ Some h →
      h.top ≡ uid_number act → (s : ObjectState) × IsOf u states s
  own_state act states h is there own =
      let f = sees.holder h there in
      let same : f.action ≡ act = number_tells f.action act (ap (λ (x : Hold). x.top) f.is ∙ own) in
      let e : ◌≡◌ {A = Option (List ObjectState)} (Some f.states) (Some states) = sym f.prepared ∙ ap (λ k. at_uid k d.pend) same ∙ is in
      let them : f.states ≡ states = cc in
      (f.state, subst (λ x. IsOf u x f.state) them f.of)

  -- another action's states are not of the object
  pub other_states : (act : Uid) (states : List ObjectState) → at_uid act d.pend ≡ Some states →
      ((h : Hold) → pend ≡ Some h → h.top ≡ uid_number act → ⊥) → HasNone u states
  other_states act states is other s of = other (hold_of pack act s) (sees.held_by act states s is of) refl

  -- an abort drops what the action had prepared
  pub aborts_own : (act : Uid) (h : Hold) → pend ≡ Some h → h.top ≡ uid_number act → SeesPair pack u (pair_aborted act d) held None
  aborts_own act h there own = ends_own act h d.held held sees.keyed there own sees.held_is

  pub aborts_other : (act : Uid) → ((h : Hold) → pend ≡ Some h → h.top ≡ uid_number act → ⊥) →
      SeesPair pack u (pair_aborted act d) held pend
  aborts_other act other = ends_other act d.held held sees.keyed other sees.held_is

  -- a commit moves it to its place
  pub commits_own : (act : Uid) (states : List ObjectState) (h : Hold) → at_uid act d.pend ≡ Some states → pend ≡ Some h →
      h.top ≡ uid_number act → SeesPair pack u (pair_committed act d) (Some h.new) None
  commits_own act states h is there own =
      let s = own_state act states h is there own in
      ends_own act h (moved (new_states act d) d.held) (Some h.new) (moved_keyed (new_states act d) d.held sees.keyed) there own
      (subst (λ x. option_map pack (at_uid u (moved x d.held)) ≡ Some h.new) (sym (states_are act states is))
      (held_one states h.new (moved states d.held) (one_holder act states h is there) (moved_one u states s.0 d.held s.1)))

  pub commits_other : (act : Uid) (states : List ObjectState) → at_uid act d.pend ≡ Some states →
      ((h : Hold) → pend ≡ Some h → h.top ≡ uid_number act → ⊥) → SeesPair pack u (pair_committed act d) held pend
  commits_other act states is other =
      ends_other act (moved (new_states act d) d.held) held (moved_keyed (new_states act d) d.held sees.keyed) other
      (subst (λ x. option_map pack (at_uid u (moved x d.held)) ≡ held) (sym (states_are act states is))
      (ap (λ o. option_map pack o) (moved_none u states d.held (other_states act states is other)) ∙ sees.held_is))

  -- a commit that is stopped in part has moved it, or hasn't; all stays prepared
  pub parts_own : (which : Uid → Bool) (act : Uid) (states : List ObjectState) (h : Hold) → at_uid act d.pend ≡ Some states →
      pend ≡ Some h → h.top ≡ uid_number act → which u ≡ true → SeesPair pack u (pair_in_part which act d) (Some h.new) pend
  parts_own which act states h is there own passes =
      let s = own_state act states h is there own in
      record {
        sorted = sees.sorted;
        keyed = some_keyed which (new_states act d) d.held sees.keyed;
        held_is = subst (λ x. option_map pack (at_uid u (moved_some which x d.held)) ≡ Some h.new) (sym (states_are act states is))
            (held_one states h.new (moved_some which states d.held) (one_holder act states h is there)
            (moved_some_one which u states s.0 d.held passes s.1));
        holder = λ g e. let f = sees.holder g e in
            record { action = f.action; states = f.states; state = f.state; prepared = f.prepared; of = f.of; is = f.is };
        held_by = sees.held_by;
      }

  pub parts_other : (which : Uid → Bool) (act : Uid) (states : List ObjectState) → at_uid act d.pend ≡ Some states →
      HasNone u states ⊎ (which u ≡ false) → SeesPair pack u (pair_in_part which act d) held pend
  parts_other which act states is none = record {
    sorted = sees.sorted;
    keyed = some_keyed which (new_states act d) d.held sees.keyed;
    held_is = subst (λ x. option_map pack (at_uid u (moved_some which x d.held)) ≡ held) (sym (states_are act states is))
        (ap (λ o. option_map pack o) (moved_some_none which u states d.held none) ∙ sees.held_is);
    holder = λ g e. let f = sees.holder g e in
        record { action = f.action; states = f.states; state = f.state; prepared = f.prepared; of = f.of; is = f.is };
    held_by = sees.held_by;
  }

  -- whose the machine's place is
  pub whose : (act : Uid) →
      ((h : Hold) × (pend ≡ Some h) × (h.top ≡ uid_number act)) ⊎ ((h : Hold) → pend ≡ Some h → h.top ≡ uid_number act → ⊥)
  whose act = by pend refl
    where
      number_cases : (m n : ℕ) → (m ≡ n) ⊎ (m ≢ n)
      number_cases m n = grind arith

      by : (o : Option Hold) → pend ≡ o →
          ((h : Hold) × (pend ≡ Some h) × (h.top ≡ uid_number act)) ⊎ ((h : Hold) → pend ≡ Some h → h.top ≡ uid_number act → ⊥)
      by None is = inr (λ h e own. let f : ◌≡◌ {A = Option Hold} None (Some h) = sym is ∙ e in cc)
      by (Some g) is = ⊎_elim (λ own. inl (g, is, own)) (λ other. inr (λ h e own. let f : ◌≡◌ {A = Option Hold} (Some g) (Some h) = sym is
          ∙ e in let same : g ≡ h = cc in other (ap (λ (x : Hold). x.top) same ∙ own))) (number_cases g.top (uid_number act))
