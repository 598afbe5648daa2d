-- Whole inputs about actions, and whole messages, walked through.
use Rattle.arj_law_parts.proofs.Words
use Words.{◌≡◌, ℕ, ◌&&◌, ◌||◌, List, [], ◌∷◌, Bool, true, false, Option, Some, None, refl, sym, ◌∙◌, ap, subst, inl, inr, if◌then◌else◌}
use Words.{not, is_some, list_any, or_parts, Uid, End, Head, Ask, Asked, Op, Label, Message, Header, asks, is_on, last_uid, uids_of}
use Words.{uid_same, Reply, last_end, actor, answers, call, include, commit_action, gives_up, heard, heard_doing, heard_now, heard_by}
use Words.{heard_none, waits_for_call, waits_for_commit, moved_commit, heard_call, give_up, give_up_doing, confirm, Coord, Doing, Now, Idle}
use Words.{Calling, Committing, doing_of, number_of, Disk, Effect, Intent, Did, abort_action, acked, acked_by, acked_left, answer_query}
use Words.{Naming, Handled, Parts, Took, Void, coord_heard, handle_answer, handle_ask, handle_ends, handle_other, handle_told, if_naming}
use Words.{serve, served, with_coord, with_naming, at_uid, uid_number, without_number, acts, refusal_up, refused_by, first_reason}
use Words.{call_reasons, include_reasons, commit_reasons, abort_reasons, giveup_reasons, branch_named, branch_numbered, on_branch, waits}
use Words.{waits_above, waits_below, sibling_waits, is_waiting, is_waiting_now, class_at, lacks_op, Branch, branch_of, at_place}
use Words.{has_open_child, has_many_objects, root_of, Seen, is_serial}
use Words.ask
use Words.message
use Words.commit
use Words.order
use Words.input
use Rattle.arj_law_disk_view.proofs.Terms
use Terms.{World, In, test_same, up, Walks, Up, DidIsWalked, KnowsNode, ConfirmsAreBooked, NotesMessage, KnowsKinds, KnowsCoord, may_note}
use Terms.{Claims, ClaimsAnswered, ClaimsAsk, ClaimsLast, ClaimsOther, ClaimsReply, IsSeenByDisks, Kinds, SeesDisks, Acks, Begins}
use Terms.mail
use Terms.seen
use Rattle.arj_law_disk_view.proofs.view
use view.{AckWalks.acks_are_taken, ActionAborts.actions_are_aborted, ConfirmWalks.confirms_are_walked, NamingTold.naming_is_told}
use view.{QueryWalks.queries_are_answered, ToldWalks.ends_are_walked}
use view.CallWalks.{calls_begin, includes_begin, calls_are_heard, calls_are_given_up}
use view.CommitWalks.{actions_commit, commits_are_heard, commits_are_given_up}
use view.ServedWalks.{requests_are_served, hellos_are_walked}
use view.StoreWalks.{loads_are_walked, prepares_are_walked, took_is}
use Rattle.arj_law_disk_view.specs.view.{Coordinating.ActsAreWalked, Coordinating.MessagesAreWalked, Sees.ClaimsAsked}

-- ---- inputs about actions

pub no_reason : (n : ℕ) (b : Bool) (rs : List (ℕ × Bool)) → first_reason ((n, b) ∷ rs) ≡ None → (b ≡ false) × (first_reason rs ≡ None)
no_reason n true rs h = absurd (cc h)
no_reason n false rs h = (refl, h)

pub unended : (o : Option End) → is_some o ≡ false → o ≡ None
unended None h = refl
unended (Some how) h = absurd (cc h)

pub idle_is : (now : Now) → is_waiting_now now ≡ false → now ≡ Idle
idle_is Idle h = refl
idle_is (Calling s) h = absurd (cc h)
idle_is (Committing m) h = absurd (cc h)

-- none of a path waits, so its last doesn't
pub last_not : (f : Uid → Bool) (us : List Uid) (r : Uid) → is_on us r ≡ true → list_any f us ≡ false → f (last_uid us) ≡ false
last_not f [] r on none = absurd (cc on)
last_not f (u ∷ []) r on none = (or_parts (f u) false none).0
last_not f (u ∷ w ∷ us) r on none =
    last_not f (w ∷ us) w (ap (λ b. b || is_on us w) (uid_same w)) (or_parts (f u) (list_any f (w ∷ us)) none).1

module _ (hd : Header) (x : ℕ) (tops : Kinds) (e k : ℕ) (d : Disk) (t : Parts) (M : Seen) (kinds : KnowsKinds tops)
    (knows : KnowsCoord tops d.intents t.coord) (W : World) (sees : SeesDisks x tops W (up k d t M)) where
  pub placed : (o : Option ℕ) (b : Branch) → branch_numbered t.coord o ≡ Some b → branch_of (actor b.path) t.coord.tree ≡ Some b
  placed None b is = absurd (cc is)
  placed (Some n) b is =
      let u : Uid = record { node = t.coord.tree.node; inc = t.coord.tree.inc; num = n } in
      let there : branch_of u t.coord.tree ≡ Some b = ap (λ c. if c then at_place n t.coord.tree.branches else None)
      (λ i. test_same t.coord.tree.node i && test_same t.coord.tree.inc i) ∙ is in
      ap (λ a. branch_of a t.coord.tree) (knows.path u b there) ∙ there

  -- it waits for nothing
  pub waits_not : (b : Branch) (q : Doing) → branch_of (actor b.path) t.coord.tree ≡ Some b → doing_of (actor b.path) t.coord ≡ Some q →
      waits_above b t.coord ≡ false → q.now ≡ Idle
  waits_not b q found at_work none = idle_is q.now
      (sym (ap is_waiting at_work) ∙ last_not (waits t.coord) (uids_of b.path) (root_of b.path) (knows.headed (actor b.path) b found) none)

  by_label : (reasons : Branch → Coord → List (ℕ × Bool)) (f : Branch → Did Coord) (l : Label) →
      refused_by reasons t.coord (branch_named l t.coord) ≡ None
      → ((b : Branch) → branch_named l t.coord ≡ Some b → branch_of (actor b.path) t.coord.tree ≡ Some b →
      first_reason (reasons b t.coord) ≡ None → DidIsWalked x tops e k d t (f b) M) →
      DidIsWalked x tops e k d t (on_branch f t.coord (branch_named l t.coord)) M
  by_label reasons f l free go = by (branch_named l t.coord) refl free
    where
      by : (o : Option Branch) → branch_named l t.coord ≡ o → refused_by reasons t.coord o ≡ None →
          DidIsWalked x tops e k d t (on_branch f t.coord o) M
      by None is h = absurd (cc h)
      by (Some b) is h = go b is (placed (number_of l t.coord) b is) h

  call_acts : (l : Label) (y : ℕ) (o : Op) → refusal_up hd (input.Call l y o) t.coord ≡ None →
      DidIsWalked x tops e k d t (acts (input.Call l y o) d.intents t.coord) M
  call_acts l y o free = by_label (call_reasons hd y o) (λ b. call b.path y o t.coord) l free (λ b named found none.
      let q = knows.at_work (actor b.path) b found in
      let one = no_reason 6 (is_some b.ended) ((7, waits_above b t.coord || waits_below b t.coord) ∷ (11, is_serial b.kind) ∷ (12, b.doomed)
      ∷ (13, not (is_some (class_at y hd))) ∷ (14, lacks_op o (class_at y hd)) ∷ (16, has_many_objects b y t.coord.tree) ∷ []) none in
      let two = no_reason 7 (waits_above b t.coord || waits_below b t.coord) ((11, is_serial b.kind) ∷ (12, b.doomed)
      ∷ (13, not (is_some (class_at y hd))) ∷ (14, lacks_op o (class_at y hd)) ∷ (16, has_many_objects b y t.coord.tree) ∷ []) one.1 in
      calls_begin x tops e k d t (actor b.path) b q.0 y o M knows found (unended b.ended one.0) q.1
      (waits_not b q.0 found q.1 (or_parts (waits_above b t.coord) (waits_below b t.coord) two.0).0) W sees)

  include_acts : (l : Label) (y s : ℕ) → refusal_up hd (input.Include l y s) t.coord ≡ None →
      DidIsWalked x tops e k d t (acts (input.Include l y s) d.intents t.coord) M
  include_acts l y s free = by_label (include_reasons hd y) (λ b. include b.path y s t.coord) l free (λ b named found none.
      let q = knows.at_work (actor b.path) b found in
      let one = no_reason 6 (is_some b.ended) ((7, waits_above b t.coord || waits_below b t.coord) ∷ (11, is_serial b.kind) ∷ (12, b.doomed)
      ∷ (13, not (is_some (class_at y hd))) ∷ (16, has_many_objects b y t.coord.tree) ∷ []) none in
      let two = no_reason 7 (waits_above b t.coord || waits_below b t.coord) ((11, is_serial b.kind) ∷ (12, b.doomed)
      ∷ (13, not (is_some (class_at y hd))) ∷ (16, has_many_objects b y t.coord.tree) ∷ []) one.1 in
      includes_begin x tops e k d t (actor b.path) b q.0 y s M knows found (unended b.ended one.0) q.1
      (waits_not b q.0 found q.1 (or_parts (waits_above b t.coord) (waits_below b t.coord) two.0).0) W sees)

  commit_acts : (l : Label) → refusal_up hd (input.Commit l) t.coord ≡ None → ((b : Branch) → branch_named l t.coord ≡ Some b → may_note
      tops.walk (Begins (uid_number (actor b.path))) ≡ true) → DidIsWalked x tops e k d t (acts (input.Commit l) d.intents t.coord) M
  commit_acts l free notes = by_label commit_reasons (λ b. commit_action b d.intents t.coord) l free (λ b named found none.
      let q = knows.at_work (actor b.path) b found in
      let w : Bool = (waits_above b t.coord || waits_below b t.coord) || sibling_waits b t.coord in
      let one = no_reason 6 (is_some b.ended) ((7, waits_above b t.coord || waits_below b t.coord || sibling_waits b t.coord)
      ∷ (9, has_open_child (actor b.path) t.coord.tree) ∷ []) none in
      let two = no_reason 7 (waits_above b t.coord || waits_below b t.coord || sibling_waits b t.coord)
      ((9, has_open_child (actor b.path) t.coord.tree) ∷ []) one.1 in
      let three = no_reason 9 (has_open_child (actor b.path) t.coord.tree) [] two.1 in
      actions_commit x tops e k d t (actor b.path) b q.0 M kinds knows found (unended b.ended one.0) q.1 (waits_not b q.0 found q.1
      (above_not (waits_above b t.coord) (waits_below b t.coord) (sibling_waits b t.coord) two.0)) three.0 (notes b named) W sees)
    where
      above_not : (a b c : Bool) → (a || b || c) ≡ false → a ≡ false
      above_not true true true h = h
      above_not true true false h = h
      above_not true false true h = h
      above_not true false false h = h
      above_not false b c h = refl

  abort_acts : (l : Label) → refusal_up hd (input.Abort l) t.coord ≡ None →
      DidIsWalked x tops e k d t (acts (input.Abort l) d.intents t.coord) M
  abort_acts l free = by_label abort_reasons (λ b. abort_action (actor b.path) d.intents t.coord) l free (λ b named found none.
      let one = no_reason 6 (is_some b.ended) ((7, waits_above b t.coord || waits_below b t.coord) ∷ []) none in
      actions_are_aborted x tops e k d t (actor b.path) b M kinds knows found (unended b.ended one.0) W sees)

  giveup_acts : (l : Label) → refusal_up hd (input.GiveUp l) t.coord ≡ None → ((b : Branch) → branch_named l t.coord ≡ Some b → may_note
      tops.walk (Begins (uid_number (actor b.path))) ≡ true) → DidIsWalked x tops e k d t (acts (input.GiveUp l) d.intents t.coord) M
  giveup_acts l free notes = by_label giveup_reasons (λ b. give_up (actor b.path) d.intents t.coord) l free (λ b named found none.
      let q = knows.at_work (actor b.path) b found in
      subst (λ o. DidIsWalked x tops e k d t (give_up_doing (actor b.path) d.intents t.coord o) M) (sym q.1)
      (by_now (actor b.path) q.0 (notes b named) q.1 (let r = q.0 in r.now) refl))
    where
      by_now : (u : Uid) (q : Doing) → may_note tops.walk (Begins (uid_number u)) ≡ true → doing_of u t.coord ≡ Some q → (now : Now) →
          q.now ≡ now → DidIsWalked x tops e k d t (gives_up u d.intents t.coord now) M
      by_now u q note at_work Idle is = (W, sees)
      by_now u q note at_work (Calling s) is = calls_are_given_up x tops e k d t u q s M knows at_work is W sees
      by_now u q note at_work (Committing m) is = commits_are_given_up x tops e k d t u q m M kinds knows at_work is note W sees

pub acts_are_walked : ActsAreWalked
acts_are_walked hd x tops e k d t (input.Call l y o) M kinds knows act free notes W sees =
    call_acts hd x tops e k d t M kinds knows W sees l y o free
acts_are_walked hd x tops e k d t (input.Include l y s) M kinds knows act free notes W sees =
    include_acts hd x tops e k d t M kinds knows W sees l y s free
acts_are_walked hd x tops e k d t (input.Commit l) M kinds knows act free notes W sees =
    commit_acts hd x tops e k d t M kinds knows W sees l free (λ b. notes l b (inl refl))
acts_are_walked hd x tops e k d t (input.Abort l) M kinds knows act free notes W sees =
    abort_acts hd x tops e k d t M kinds knows W sees l free
acts_are_walked hd x tops e k d t (input.GiveUp l) M kinds knows act free notes W sees =
    giveup_acts hd x tops e k d t M kinds knows W sees l free (λ b. notes l b (inr refl))
acts_are_walked hd x tops e k d t (input.Begin l how parent) M kinds knows act free notes W sees = absurd (cc act)
acts_are_walked hd x tops e k d t (input.Frame n from m) M kinds knows act free notes W sees = absurd (cc act)
acts_are_walked hd x tops e k d t input.Tick M kinds knows act free notes W sees = absurd (cc act)
acts_are_walked hd x tops e k d t input.Restart M kinds knows act free notes W sees = absurd (cc act)
acts_are_walked hd x tops e k d t input.Crash M kinds knows act free notes W sees = absurd (cc act)
acts_are_walked hd x tops e k d t (input.Show y) M kinds knows act free notes W sees = absurd (cc act)

-- ---- messages

module _ (x : ℕ) (tops : Kinds) (e k : ℕ) (d : Disk) (t v : Parts) (from : ℕ) (outs : List Effect) (M : Seen) (knows : KnowsNode tops k d t
    M) (m : Message) (notes : NotesMessage tops.walk t.coord m) (W : World) (sees : SeesDisks x tops W (up k d t M)) where
  abbrev P : Seen → Type 0
  P = IsSeenByDisks x tops

  abbrev Goal : Handled → Type 0
  Goal h = h ≡ Took v outs → Walks P e k outs (Up P k v) d M

  took : (a : Parts) (b : List Effect) → Walks P e k b (Up P k a) d M → Goal (Took a b)
  took a b walk is = took_is x k tops e (λ p q. Walks P e k q (Up P k p) d M) a b v outs is walk

  void : (b : List Effect) → Goal (Void b)
  void b is = absurd (cc is)

  -- ---- requests

  by_ask : (h : Head) (a : Ask) → asks m ≡ Some (h, a) → ConfirmsAreBooked d t W (Some (h, a)) →
      ((U : World) → SeesDisks x tops U (up k d t M) → ClaimsAsk x U k h a) → Goal (serve k d t from h a)
  by_ask h (ask.Bind y include avoid) it free claims is =
      requests_are_served x tops e k d t v from h (ask.Bind y include avoid) outs M tt (W, sees) claims is
  by_ask h (ask.Load y) it free claims is = loads_are_walked x tops e k d t v from h (ask.Load y) outs M tt (W, sees) claims is
  by_ask h (ask.Activate b st) it free claims is =
      requests_are_served x tops e k d t v from h (ask.Activate b st) outs M tt (W, sees) claims is
  by_ask h (ask.Record y b i g) it free claims is =
      requests_are_served x tops e k d t v from h (ask.Record y b i g) outs M tt (W, sees) claims is
  by_ask h (ask.Invoke y b i ends op) it free claims is =
      requests_are_served x tops e k d t v from h (ask.Invoke y b i ends op) outs M tt (W, sees) claims is
  by_ask h (ask.Vote i ties ends) it free claims is =
      requests_are_served x tops e k d t v from h (ask.Vote i ties ends) outs M tt (W, sees) claims is
  by_ask h (ask.Prepare states) it free claims is =
      prepares_are_walked x tops e k d t v from h (ask.Prepare states) outs M tt (W, sees) claims is
  by_ask h (ask.Confirm grants excluded included) it booked claims is = named t.naming refl is
    where
      at_one : (n : Naming) → t.naming ≡ Some n → (j : ℕ) → 1 ≡ j → SeesDisks x tops W (up j d t M) →
          ClaimsAsk x W j h (ask.Confirm grants excluded included) → serve j d t from h (ask.Confirm grants excluded included)
          ≡ Took v outs → Walks (IsSeenByDisks x tops) e j outs (Up (IsSeenByDisks x tops) j v) d M
      at_one n is j one = subst (λ j. SeesDisks x tops W (up j d t M) → ClaimsAsk x W j h (ask.Confirm grants excluded included) →
          serve j d t from h (ask.Confirm grants excluded included) ≡ Took v outs →
          Walks (IsSeenByDisks x tops) e j outs (Up (IsSeenByDisks x tops) j v) d M) one
          (λ s c took. confirms_are_walked x tops e d t v n from h grants excluded included outs M is
          (notes.asker h grants excluded included it) W s c (booked n is) took)

      named : (o : Option Naming) → t.naming ≡ o → if_naming (λ n. served from h (with_naming t) Reply.Confirmed
          (confirm h.path grants excluded included d.names n)) o ≡ Took v outs → Walks P e k outs (Up P k v) d M
      named None none took = absurd (cc took)
      named (Some n) there took = at_one n there k (sym (knows.naming_here n there).0) sees (claims W sees) (ap (λ o. if_naming
          (λ n. served from h (with_naming t) Reply.Confirmed (confirm h.path grants excluded included d.names n)) o) there ∙ took)

  -- ---- answers

  by_answer : (a : Asked) (r : Reply) → answers m ≡ Some (a, r) → ClaimsReply x W from a.act r →
      Goal (coord_heard t (heard from a r d.intents t.coord))
  by_answer a r it claims = by (doing_of a.act t.coord) refl
    where
      by_now : (q : Doing) → doing_of a.act t.coord ≡ Some q → (now : Now) → q.now ≡ now →
          Goal (coord_heard t (heard_now from a r d.intents t.coord now))
      by_now q does Idle is = void []
      by_now q does (Calling s) is = test (waits_for_call from a r s)
        where
          test : (b : Bool) → Goal (coord_heard t (if b then heard_by (heard_call s r t.coord) else heard_none t.coord))
          test false = void []
          test true = took (with_coord t (heard_call s r t.coord).part) (heard_call s r t.coord).outs
              (calls_are_heard x tops e k d t from a.act q s r M knows.coord does is W sees claims)
      by_now q does (Committing z) is = test (waits_for_commit from a r z) refl
        where
          test : (b : Bool) → waits_for_commit from a r z ≡ b → Goal
              (coord_heard t (if b then heard_by (moved_commit a.act (commit.answered from z r) d.intents t.coord) else heard_none t.coord))
          test false w = void []
          test true w = took (with_coord t (moved_commit a.act (commit.answered from z r) d.intents t.coord).part)
              (moved_commit a.act (commit.answered from z r) d.intents t.coord).outs (commits_are_heard x tops e k d t from a q z r M
              knows.kinds knows.coord does is w (notes.answered a r q z it does is) W sees claims)

      by : (o : Option Doing) → doing_of a.act t.coord ≡ o → Goal (coord_heard t (heard_doing from a r d.intents t.coord o))
      by None is = void []
      by (Some q) is = by_now q is q.now refl

  -- ---- acknowledgements

  by_acked : (act : Uid) → In (mail.Acked (uid_number act) from) W.sent → Goal (coord_heard t (acked from act d.intents t.coord))
  by_acked act claims = by (at_uid act t.coord.telling) refl
    where
      by_left : (i : Intent) (ns : List ℕ) → Walks P e k (acked_left act i d.intents t.coord ns).outs (Up P k
          (with_coord t (acked_left act i d.intents t.coord ns).part)) d M → Goal (coord_heard t (acked_left act i d.intents t.coord ns))
      by_left i [] walk = took (with_coord t (acked_left act i d.intents t.coord []).part) (acked_left act i d.intents t.coord []).outs walk
      by_left i (n ∷ ns) walk =
          took (with_coord t (acked_left act i d.intents t.coord (n ∷ ns)).part) (acked_left act i d.intents t.coord (n ∷ ns)).outs walk

      by : (o : Option Intent) → at_uid act t.coord.telling ≡ o → Goal (coord_heard t (acked_by from act d.intents t.coord o))
      by None is = void []
      by (Some i) is = test (order.has i.nodes from)
        where
          test : (b : Bool) → Goal (coord_heard t (if b then acked_left act i d.intents t.coord (without_number from i.nodes) else
              record { part = t.coord; outs = []; reply = None }))
          test false = void []
          test true =
              by_left i (without_number from i.nodes) (acks_are_taken x tops e k d t from act i M knows.kinds knows.coord is W sees claims)

  -- ---- ends

  by_told : (ack : Bool) (ends : List (Uid × End)) → ((u : Uid) (how : End) → last_end ends ≡ Some (u, how) → ack ≡ true →
      may_note tops.walk (Acks (uid_number u)) ≡ true) → ((U : World) → SeesDisks x tops U (up k d t M) →
      ClaimsLast tops U k ack (last_end ends)) → (o : Option Naming) → t.naming ≡ o → Goal (handle_ends k d t from ack ends (last_end ends))
  by_told ack ends noted claims None named is =
      ends_are_walked x tops e k d t v from ack ends outs M (knows.elsewhere named) named (W, sees) claims is
  by_told ack ends noted claims (Some n) named is = by (last_end ends) refl (claims W sees) is
    where
      at_one : (u : Uid) (how : End) → (ack ≡ true → may_note tops.walk (Acks (uid_number u)) ≡ true) → (j : ℕ) → 1 ≡ j →
          SeesDisks x tops W (up j d t M) → ClaimsLast tops W j ack (Some (u, how)) → handle_told j d t from ack ends u how ≡ Took v outs →
          Walks (IsSeenByDisks x tops) e j outs (Up (IsSeenByDisks x tops) j v) d M
      at_one u how note j one = subst (λ j. SeesDisks x tops W (up j d t M) → ClaimsLast tops W j ack (Some (u, how)) → handle_told j d t
          from ack ends u how ≡ Took v outs → Walks (IsSeenByDisks x tops) e j outs (Up (IsSeenByDisks x tops) j v) d M) one
          (λ s c h. naming_is_told x tops e d t v n from ack ends u how outs M named ((knows.naming_here n named).1 u) note W s c h)

      by : (o : Option (Uid × End)) → last_end ends ≡ o → ClaimsLast tops W k ack o → Goal (handle_ends k d t from ack ends o)
      by None it c h = took t [] (W, sees) h
      by (Some z) it c h = at_one z.0 z.1 (noted z.0 z.1 it) k (sym (knows.naming_here n named).0) sees c h

  -- ---- what stands alone

  by_other : (m : Message) → ((root : Uid) (ack : Bool) (ends : List (Uid × End)) (u : Uid) (how : End) →
      m ≡ message.Told (record { root = root; ack = ack; ends = ends }) → last_end ends ≡ Some (u, how) → ack ≡ true →
      may_note tops.walk (Acks (uid_number u)) ≡ true) → seen.In (record { from = from; to = k; message = m }) M.sent →
      ((U : World) → SeesDisks x tops U (up k d t M) → ClaimsOther tops U M.lines from k m) → Goal (handle_other k d t from m)
  by_other (message.Told m) noted sent claims is =
      by_told m.ack m.ends (λ u how. noted m.root m.ack m.ends u how refl) (λ U s. claims U s) t.naming refl is
  by_other (message.Acked m) noted sent claims is = by_acked m.act (claims W sees) is
  by_other (message.Query m) noted sent claims is = took t (answer_query from m.act d.intents t.coord)
      (queries_are_answered x tops e k d t from m.act M knows.kinds knows.coord (knows.asked from m.act sent) W sees) is
  by_other (message.Hello m) noted sent claims is = hellos_are_walked x tops e k d t v m.node m.inc outs M knows.begun (W, sees) is
  by_other (message.Bind m) noted sent claims is = absurd (cc is)
  by_other (message.Bound m) noted sent claims is = absurd (cc is)
  by_other (message.Load m) noted sent claims is = absurd (cc is)
  by_other (message.Loaded m) noted sent claims is = absurd (cc is)
  by_other (message.Activate m) noted sent claims is = absurd (cc is)
  by_other (message.Activated m) noted sent claims is = absurd (cc is)
  by_other (message.RecordMsg m) noted sent claims is = absurd (cc is)
  by_other (message.Recorded m) noted sent claims is = absurd (cc is)
  by_other (message.Invoke m) noted sent claims is = absurd (cc is)
  by_other (message.Invoked m) noted sent claims is = absurd (cc is)
  by_other (message.Vote m) noted sent claims is = absurd (cc is)
  by_other (message.Voted m) noted sent claims is = absurd (cc is)
  by_other (message.Prepare m) noted sent claims is = absurd (cc is)
  by_other (message.Prepared m) noted sent claims is = absurd (cc is)
  by_other (message.Confirm m) noted sent claims is = absurd (cc is)
  by_other (message.Confirmed m) noted sent claims is = absurd (cc is)

pub messages_are_walked : MessagesAreWalked
messages_are_walked x tops e k d t v from m outs M knows notes sent W sees booked = by (asks m) refl
  where
    claims : (U : World) → SeesDisks x tops U (up k d t M) → Claims x tops U M.lines (record { from = from; to = k; message = m })
    claims U s = s.posts (record { from = from; to = k; message = m }) sent

    by_answers : asks m ≡ None → (o : Option (Asked × Reply)) → answers m ≡ o → handle_answer k d t from m o ≡ Took v outs →
        Walks (IsSeenByDisks x tops) e k outs (Up (IsSeenByDisks x tops) k v) d M
    by_answers none None is = by_other x tops e k d t v from outs M knows m notes W sees m notes.told sent (λ U s.
        subst (λ o. ClaimsAnswered x tops U M.lines from k m o) is (subst (λ o. ClaimsAsked x tops U M.lines from k m o) none (claims U s)))
    by_answers none (Some a) is = by_answer x tops e k d t v from outs M knows m notes W sees a.0 a.1 is (subst
        (λ o. ClaimsAnswered x tops W M.lines from k m o) is (subst (λ o. ClaimsAsked x tops W M.lines from k m o) none (claims W sees)))

    by : (o : Option (Head × Ask)) → asks m ≡ o → handle_ask k d t from m o ≡ Took v outs →
        Walks (IsSeenByDisks x tops) e k outs (Up (IsSeenByDisks x tops) k v) d M
    by None is = by_answers is (answers m) refl
    by (Some a) is = by_ask x tops e k d t v from outs M knows m notes W sees a.0 a.1 is (subst (ConfirmsAreBooked d t W) is booked)
        (λ U s. subst (λ o. ClaimsAsked x tops U M.lines from k m o) is (claims U s))
