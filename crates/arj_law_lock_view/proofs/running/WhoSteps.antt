-- Naming takes a message: whom the machine's naming confirms naming did confirm, and where a stop falls before that is on the disk or sent
-- the machine is left as it was.
use Rattle.arj_law_parts.proofs.Words
use Words.{◌≡◌, ◌⊎◌, ◌∙◌, ℕ, List, [], ◌∷◌, Bool, true, false, Option, Some, None, refl, sym, ap, subst, inl, inr, ⊎_elim, list_all}
use Words.{and_parts, Ask, Body, Head, Message, ObjectState, Uid, asks, Reply, asked_by, response, top_of, Grants, Marks, Abort, Commit}
use Words.{Disk, Do, Effect, Prepare, Say, Send, Stop, Work, is_prepared, stopped, worked, AreAll, Post, Seen}
use Words.list
use Words.ask
use Words.confirmed
use Words.role
use Rattle.arj_law_lock_view.proofs.Terms
use Terms.{is_top, Run, State, by_cases, is_plain, Action, AreQuiet, Within, posted, said, IsReached, names_object, Fixed, HasConfirm}
use Terms.{HaveConfirms, IsConfirmedAt, IsOverIn, WasAnsweredYes, WereConfirmed}
use Terms.seen
use Rattle.arj_law_lock_view.proofs.running
use running.{OtherSteps.SeesOthers, OtherSteps.said_others, TieSteps.IsTiedNow, TieSteps.tied_plain, WalkSteps.KeepsWho}
use running.{WalkSteps.StopsWell}
use running.ConfirmSteps.{IsLast, is_end_of}
use running.NameSteps.{confirm_more, prepared_halted, prepared_left, prepared_stopped, prepared_worked, was_later, was_more}
use Rattle.arj_law_lock_view.specs.running.Sees.{WasConfirmed}

same_ask : (h p : Head) (a b : Ask) → ◌≡◌ {A = Option (Head × Ask)} (Some (h, a)) (Some (p, b)) → (h ≡ p) × (a ≡ b)
same_ask h p a b is = let two : ◌≡◌ {A = Head × Ask} (h, a) (p, b) = cc is in
    (ap (λ (z : Head × Ask). z.0) two, ap (λ (z : Head × Ask). z.1) two)

module _ (f : Fixed) (x : ℕ) (begun : List Action) (k : ℕ) (S T : State) (e from : ℕ) (m : Message) (has : Disk → Type 0) (at_one : k ≡ 1)
    (reached : IsReached S) (run : Run S T) (sent : List Post) (there : seen.In (record { from = from; to = k; message = m }) sent)
    (g : Uid → Bool) (over : (u : Uid) → g u ≡ true → is_top (f.act u) ≡ true → S.confirmed (f.act u) ≡ true → IsOverIn (f.act u) S)
    (halt : (d : Disk) (M : Seen) → has d → SeesOthers f x begun k S M → HaveConfirms f x k S M.sent d None →
    IsTiedNow f x begun S M.lines → StopsWell f x begun k e S d M) where
  -- the action is the top of the Confirm that came
  pub record IsAnew (u : Uid) : Type 0 where
    pub head : Head
    pub grants : Grants
    pub excluded : Marks
    pub included : Marks
    pub is : asks m ≡ Some (head, ask.Confirm grants excluded included)
    pub top : top_of (let h = head in h.path) ≡ u

  -- its Yes
  abbrev pub yes_of : Head → Message
  yes_of h = response (asked_by h) (Reply.Confirmed confirmed.Yes)

  abbrev pub answer_of : Head → Post
  answer_of h = record { from = k; to = from; message = yes_of h }

  -- whom the machine's naming has confirmed anew is so, has a grant on the object, and its Yes goes out or went out
  abbrev pub GoesOut : List Effect → List Post → Uid → Type 0
  GoesOut es mail u =
      (a : IsAnew u) × (names_object x a.grants ≡ true) × (list.In (Send from (yes_of a.head)) es ⊎ seen.In (answer_of a.head) mail)

  -- where a Confirm came nothing was sent so far and the rest of the world is seen as before, or nothing is left to be done
  abbrev pub StaysBack : List Effect → Seen → Type 0
  StaysBack es M = (h : Head) (grants : Grants) (excluded included : Marks) → asks m ≡ Some (h, ask.Confirm grants excluded included) →
      IsLast es × ((SeesOthers f x begun k S M × IsTiedNow f x begun S M.lines) ⊎ (es ≡ []))

  pub record IsKept (es : List Effect) (d : Disk) (M : Seen) : Type 0 where
    pub within : Within sent M.sent
    pub old : (u : Uid) → is_top (f.act u) ≡ true → S.confirmed (f.act u) ≡ true → WasConfirmed f x S M.sent d u
    pub new : (u : Uid) → is_top (f.act u) ≡ true → T.confirmed (f.act u) ≡ true → (S.confirmed (f.act u) ≡ true) ⊎ GoesOut es M.sent u
    pub ends : AreAll (is_end_of g) es
    pub had : (u : Uid) → is_prepared u (let z = d in z.names) ≡ true → HasConfirm f x S M.sent u ⊎ IsAnew u
    pub readied : (u : Uid) (states : List ObjectState) → list.In (Do (Prepare role.Names u states)) es → IsAnew u
    pub back : StaysBack es M

  -- ---- what ends

  ended : (w : Work) (u : Uid) → is_end_of g (Do w) ≡ true → (Commit role.Names u ≡ w) ⊎ (Abort role.Names u ≡ w) → g u ≡ true
  ended w u all (inl is) = ap (λ z. is_end_of g (Do z)) is ∙ all
  ended w u all (inr is) = ap (λ z. is_end_of g (Do z)) is ∙ all

  -- who was confirmed is so on the disk after the work, or where a stop falls on it
  was_left : (w : Work) (es : List Effect) (d E : Disk) (M : Seen) (i : IsKept (Do w ∷ es) d M) →
      ((u : Uid) → is_prepared u d.names ≡ true → (is_prepared u E.names ≡ true) ⊎ ((Commit role.Names u ≡ w) ⊎ (Abort role.Names u ≡ w))) →
      (u : Uid) → is_top (f.act u) ≡ true → S.confirmed (f.act u) ≡ true → WasConfirmed f x S M.sent E u
  was_left w es d E M i stays u top on = by (i.old u top on)
    where
      by : WasConfirmed f x S M.sent d u → WasConfirmed f x S M.sent E u
      by (inl answered) = inl answered
      by (inr (inl prepared)) = ⊎_elim (λ still. inr (inl still)) (λ ends. inr
          (inr (over u (ended w u (and_parts (is_end_of g (Do w)) (list_all (is_end_of g) es) i.ends).0 ends) top on))) (stays u prepared)
      by (inr (inr gone)) = inr (inr gone)

  -- ---- the walk

  works : (w : Work) (es : List Effect) (d : Disk) (M : Seen) → IsKept (Do w ∷ es) d M → IsKept es (worked w d) M
  works w es d M i = record {
    within = i.within;
    old = was_left w es d (worked w d) M i (prepared_left w d);
    new = λ u top on. ⊎_elim (λ was. inl was) (λ z. inr (z.0, z.1, moves z.0.head z.2)) (i.new u top on);
    ends = (and_parts (is_end_of g (Do w)) (list_all (is_end_of g) es) i.ends).1;
    had = λ u prepared.
        ⊎_elim (λ was. i.had u was) (λ new. inr (i.readied u new.0 (inl (ap Do (sym new.1))))) (prepared_worked w d u prepared);
    readied = λ u states is. i.readied u states (inr is);
    back = λ h grants excluded included is. (let b = i.back h grants excluded included is in
        (b.0, ⊎_elim (λ z. inl z) (λ none. absurd (cc none)) b.1));
  }
    where
      moves : (h : Head) → list.In (Send from (yes_of h)) (Do w ∷ es) ⊎ seen.In (answer_of h) M.sent →
          list.In (Send from (yes_of h)) es ⊎ seen.In (answer_of h) M.sent
      moves h (inl (inl is)) = absurd (cc is)
      moves h (inl (inr j)) = inl j
      moves h (inr j) = inr j

  says : (b : Body) (es : List Effect) (d : Disk) (M : Seen) → is_plain b ≡ true → IsKept (Say b ∷ es) d M → IsKept es d (said e (b ∷ []) M)
  says b es d M plain i = record {
    within = i.within;
    old = i.old;
    new = λ u top on. ⊎_elim (λ was. inl was) (λ z. inr (z.0, z.1, moves z.0.head z.2)) (i.new u top on);
    ends = (and_parts (is_end_of g (Say b)) (list_all (is_end_of g) es) i.ends).1;
    had = i.had;
    readied = λ u states is. i.readied u states (inr is);
    back = λ h grants excluded included is. (let z = i.back h grants excluded included is in (
      z.0,
      ⊎_elim (λ q. inl (said_others f x begun k e (b ∷ []) S M q.0, tied_plain f x begun e (b ∷ []) S M.lines (plain, tt) q.1))
          (λ none. absurd (cc none)) z.1,
    ));
  }
    where
      moves : (h : Head) → list.In (Send from (yes_of h)) (Say b ∷ es) ⊎ seen.In (answer_of h) M.sent →
          list.In (Send from (yes_of h)) es ⊎ seen.In (answer_of h) M.sent
      moves h (inl (inl is)) = absurd (cc is)
      moves h (inl (inr j)) = inl j
      moves h (inr j) = inr j

  sends : (to : ℕ) (z : Message) (es : List Effect) (d : Disk) (M : Seen) (more : List Body) → AreQuiet more → IsKept (Send to z ∷ es) d M →
      IsKept es d (said e more (posted (record { from = k; to = to; message = z }) M))
  sends to z es d M more quiet i = record {
    within = λ q j. inr (i.within q j);
    old = λ u top on. was_more f x S M.sent (record { from = k; to = to; message = z } ∷ M.sent) (λ q j. inr j) d u (i.old u top on);
    new = λ u top on. ⊎_elim (λ was. inl was) (λ q. inr (q.0, q.1, moves q.0.head q.2)) (i.new u top on);
    ends = (and_parts (is_end_of g (Send to z)) (list_all (is_end_of g) es) i.ends).1;
    had = λ u prepared. ⊎_elim (λ was. inl (confirm_more f x S M.sent (record { from = k; to = to; message = z } ∷ M.sent) (λ q j. inr j) u
        was)) (λ new. inr new) (i.had u prepared);
    readied = λ u states is. i.readied u states (inr is);
    back = λ h grants excluded included is. (let q = i.back h grants excluded included is in (subst IsLast (sym q.0) tt, inr q.0));
  }
    where
      moves : (h : Head) → list.In (Send from (yes_of h)) (Send to z ∷ es) ⊎ seen.In (answer_of h) M.sent →
          list.In (Send from (yes_of h)) es ⊎ seen.In (answer_of h) (record { from = k; to = to; message = z } ∷ M.sent)
      moves h (inl (inl is)) = inr (inl (post_is h is))
        where
          post_is : (h : Head) → Send to z ≡ Send from (yes_of h) → record { from = k; to = to; message = z } ≡ answer_of h
          post_is h same = let a : to ≡ from = cc same in let b : z ≡ yes_of h = cc same in
              λ i. record { from = k; to = a i; message = b i }
      moves h (inl (inr j)) = inl j
      moves h (inr j) = inr (inr j)

  -- ---- a stop

  -- all that are confirmed now are so
  all_now : (mail : List Post) (d : Disk) →
      ((u : Uid) → is_top (f.act u) ≡ true → S.confirmed (f.act u) ≡ true → WasConfirmed f x S mail d u) → ((u : Uid) → is_top (f.act u)
      ≡ true → T.confirmed (f.act u) ≡ true → (S.confirmed (f.act u) ≡ true) ⊎ WasConfirmed f x T mail d u) → WereConfirmed f x T mail d
  all_now mail d old new u top on =
      ⊎_elim (λ was. was_later f x S T reached run mail mail (λ q j. j) d u (old u top was)) (λ its. its) (new u top on)

  module _ (how : Stop) (w : Work) (es : List Effect) (d : Disk) (M : Seen) (same : has (stopped how w d))
      (i : IsKept (Do w ∷ es) d M) where
    abbrev E : Disk
    E = stopped how w d

    -- naming did confirm whom the machine's has, or the machine is left as it was
    abbrev Chosen : Type 0
    Chosen = (k ≡ 1 → WereConfirmed f x T M.sent E) ⊎ StopsWell f x begun k e S E M

    old_left : (u : Uid) → is_top (f.act u) ≡ true → S.confirmed (f.act u) ≡ true → WasConfirmed f x S M.sent E u
    old_left = was_left w es d E M i (prepared_halted how w d)

    -- no Confirm came
    none_new : ((h : Head) (grants : Grants) (excluded included : Marks) → asks m ≡ Some (h, ask.Confirm grants excluded included) → ⊥) →
        Chosen
    none_new never = inl (λ at. all_now M.sent E old_left (λ u top on.
        ⊎_elim (λ was. inl was) (λ z. (let a = z.0 in absurd (never a.head a.grants a.excluded a.included a.is))) (i.new u top on)))

    module _ (h : Head) (grants : Grants) (excluded included : Marks) (is : asks m ≡ Some (h, ask.Confirm grants excluded included)) where
      its_top : (u : Uid) → IsAnew u → top_of h.path ≡ u
      its_top u a = ap (λ (z : Head). top_of z.path)
          (same_ask h a.head (ask.Confirm grants excluded included) (ask.Confirm a.grants a.excluded a.included) (sym is ∙ a.is)).0 ∙ a.top

      -- its entries are prepared
      ready : is_prepared (top_of h.path) E.names ≡ true → Chosen
      ready prepared = inl (λ at. all_now M.sent E old_left (λ u top on. ⊎_elim (λ was. inl was)
          (λ z. inr (inr (inl (ap (λ (v : Uid). is_prepared v E.names) (sym (its_top u z.0)) ∙ prepared)))) (i.new u top on)))

      not_it : is_prepared (top_of h.path) E.names ≡ false → (u : Uid) → is_prepared u E.names ≡ true → IsAnew u → ⊥
      not_it off u prepared a = let bad : true ≡ false = sym prepared ∙ ap (λ (v : Uid). is_prepared v E.names) (sym (its_top u a)) ∙ off in
          cc bad

      -- they aren't
      who_had : is_prepared (top_of h.path) E.names ≡ false → (u : Uid) → IsConfirmedAt u E None → HasConfirm f x S M.sent u
      who_had off u (inl prepared) = ⊎_elim
          (λ was. ⊎_elim (λ its. its) (λ new. absurd (not_it off u prepared new)) (i.had u was))
          (λ new. absurd (not_it off u prepared (i.readied u new.0 (inl (ap Do (sym new.1))))))
          (prepared_stopped how w d u prepared)
      who_had off u (inr (t, n, live, at, on)) = absurd (cc live)

      unready : is_prepared (top_of h.path) E.names ≡ false → Chosen
      unready off = ⊎_elim (λ z. inr (halt E M same z.0 (who_had off, λ at. old_left) z.1)) (λ none. absurd (cc none))
          (i.back h grants excluded included is).1

      chosen : Chosen
      chosen = ⊎_elim ready unready (by_cases (is_prepared (top_of h.path) E.names))

    -- whatever was asked
    by_ask : (q : Option (Head × Ask)) → asks m ≡ q → Chosen
    by_ask None is = none_new (λ h grants excluded included at.
        (let bad : ◌≡◌ {A = Option (Head × Ask)} None (Some (h, ask.Confirm grants excluded included)) = sym is ∙ at in cc bad))
    by_ask (Some (h, ask.Confirm grants excluded included)) is = chosen h grants excluded included is
    by_ask (Some (h, ask.Bind y include avoid)) is = none_new (λ p grants excluded included at.
        (let bad = (same_ask h p (ask.Bind y include avoid) (ask.Confirm grants excluded included) (sym is ∙ at)).1 in cc bad))
    by_ask (Some (h, ask.Record y b r g)) is = none_new (λ p grants excluded included at.
        (let bad = (same_ask h p (ask.Record y b r g) (ask.Confirm grants excluded included) (sym is ∙ at)).1 in cc bad))
    by_ask (Some (h, ask.Load y)) is = none_new (λ p grants excluded included at.
        (let bad = (same_ask h p (ask.Load y) (ask.Confirm grants excluded included) (sym is ∙ at)).1 in cc bad))
    by_ask (Some (h, ask.Activate b st)) is = none_new (λ p grants excluded included at.
        (let bad = (same_ask h p (ask.Activate b st) (ask.Confirm grants excluded included) (sym is ∙ at)).1 in cc bad))
    by_ask (Some (h, ask.Invoke y b r ends o)) is = none_new (λ p grants excluded included at.
        (let bad = (same_ask h p (ask.Invoke y b r ends o) (ask.Confirm grants excluded included) (sym is ∙ at)).1 in cc bad))
    by_ask (Some (h, ask.Vote r ties ends)) is = none_new (λ p grants excluded included at.
        (let bad = (same_ask h p (ask.Vote r ties ends) (ask.Confirm grants excluded included) (sym is ∙ at)).1 in cc bad))
    by_ask (Some (h, ask.Prepare states)) is = none_new (λ p grants excluded included at.
        (let bad = (same_ask h p (ask.Prepare states) (ask.Confirm grants excluded included) (sym is ∙ at)).1 in cc bad))

    stops : Chosen
    stops = by_ask (asks m) refl

  at_end : (d : Disk) (M : Seen) → IsKept [] d M → k ≡ 1 → WereConfirmed f x T M.sent d
  at_end d M i at = all_now M.sent d i.old
      (λ u top on. ⊎_elim (λ was. inl was) (λ z. inr (inl (answered u z.0 z.1 (⊎_elim (λ j. absurd j) (λ j. j) z.2)))) (i.new u top on))
    where
      answered : (u : Uid) (a : IsAnew u) → names_object x a.grants ≡ true → seen.In (answer_of a.head) M.sent → WasAnsweredYes x M.sent u
      answered u a names out = record {
        post = record { from = from; to = k; message = m };
        head = a.head;
        grants = a.grants;
        excluded = a.excluded;
        included = a.included;
        there = i.within (record { from = from; to = k; message = m }) there;
        is = a.is;
        to = at_one;
        top = a.top;
        names = names;
        yes = out;
      }

  pub keeps_who : KeepsWho f x begun k S T e has IsKept
  keeps_who = record { works = works; says = says; sends = sends; stops = stops; ends = at_end }
