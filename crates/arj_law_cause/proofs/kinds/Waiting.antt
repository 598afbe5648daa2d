-- Where every node is idle no action waits, by the journal.
use Rattle.arj_law_parts.proofs.Words
use Words.{◌≡◌, ◌∙◌, ◌==◌, ◌&&◌, ◌||◌, not, ℕ, zero, suc, Bool, true, false, cond, if◌then◌else◌, List, [], ◌∷◌, ◌++◌, length, refl}
use Words.{sym, ap}
use Words.{subst, arith, nat_lt, nat_tests, Option, Some, None, is_some, AllByRecursion, and_parts, bytes_eq, list_any, In}
use Words.{is_at, label_cmp, name, is_on, Branch, Doing, Parts, Node, Label, Labelled, World, Header, Kind, Body, Line, at_place}
use Words.{branch_of, doing_of, is_own, uid_at, number_of, branch_numbered, is_idle, is_waiting_now, is_committing_now, is_serial}
use Words.{End, Event, inl, inr, option_map, Calling, Committing, Idle, Now, slice_get, see}
use Words.body
use Words.kind
use Rattle.arj_law_runs.proofs.Terms
use Terms.{Act, Placed, Holds, HasNames, IsGiven, IsKnown, IsWritten, acts, act_in, book, label_at, new_book, path, top_in, upwards}
use Terms.{AreRight}
use Terms.{AreFormed, Book, IsBelow, Right, is_top, turned}
use Rattle.arj_law_parts.proofs.moves.Happens.{Wide}
use Rattle.arj_law_parts.proofs.moves.Places.{all_found as all_labels}
use Rattle.arj_law_parts.specs.moves.Moments.{History, Moment}
use Rattle.arj_law_parts.specs.moves.With.{HoldsWith}
use Rattle.arj_law_parts.specs.steps.Named.{names_of}
use Rattle.arj_law_runs.proofs.follow.Gone.{ended_so, is_gone, is_gone_branch}
use Rattle.arj_law_runs.proofs.follow.Halts.{KnowsAll}
use Rattle.arj_law_runs.proofs.follow.Labeled.{KnowsFinds, label_there}
use Rattle.arj_law_runs.proofs.journal.{Books.named_is, Models.AreSound, Models.Tells, Models.holds, Models.its_acts}
use Rattle.arj_law_runs.proofs.journal.{Models.named_in, Models.new_sound, Models.or_none, Models.reads, Models.tells}
use Rattle.arj_law_runs.proofs.kept.Walked.{same_number}
use Rattle.arj_law_runs.specs.journal.Knows.{KnowsUp}
use Rattle.arj_law_lock_view.proofs.asking.Tied.{Pathed}
use Rattle.arj_law_lock_view.specs.asking.Asked.{AskedAreTied, IsTied, accepted_of, count_answers}
use Rattle.arj_law_lock_view.specs.asking.Turns.{calling}
use Rattle.arj_model.specs.Calls.{committing_of, committings}
use Rattle.arj_model.specs.Past.{Asked, Past}
use Rattle.arj_protocol.specs.Step.{is_idle_with}
use Rattle.arj_model.specs.Actions.{is_over}
use Rattle.arj_model.specs.Refusals as model
use Rattle.arj_model.specs.Refusals.{answers_to, asks_by, holds_of, is_waiting, unanswered, was_called}
use Rattle.arj_law_cause.proofs.kinds.Accepted.{IsToldBy}

some_is : {A : Type 0} {a b : A} → Some a ≡ Some b → a ≡ b
some_is {A} {a} {b} is = let k : ◌≡◌ {A = Option A} (Some a) (Some b) = is in cc

-- ---- calls of commits

-- a serializing action stands alone
serial_path : (xs : List Act) (p : List ℕ) (s : Act) → AreFormed xs → act_in xs p ≡ Some s → is_serial s.kind ≡ true → path xs p ≡ s ∷ []
serial_path [] p s formed is serial = absurd (cc is)
serial_path (x ∷ older) p s formed is serial = by (λ f. serial_path older p s formed.1 f serial) (bytes_eq x.label p) is
  where
    alone : (k : Kind) (parent : Option (List ℕ)) → is_serial k ≡ true → IsBelow older k parent → upwards parent k (path older) ≡ []
    alone kind.Serial None e b = refl
    alone kind.Serial (Some q) e b = absurd b
    alone kind.Top parent e b = absurd (cc e)
    alone kind.Nested parent e b = absurd (cc e)
    alone kind.Constituent parent e b = absurd (cc e)
    alone kind.Independent parent e b = absurd (cc e)

    by : (act_in older p ≡ Some s → path older p ≡ s ∷ []) → (t : Bool) → cond t (Some x) (act_in older p) ≡ Some s →
        cond t (upwards x.parent x.kind (path older) ++ x ∷ []) (path older p) ≡ s ∷ []
    by ih true e = let same : x ≡ s = cc e in
        ap (λ us. us ++ x ∷ []) (alone x.kind x.parent (ap (λ (a : Act). is_serial a.kind) same ∙ serial) formed.0) ∙ ap (λ a. a ∷ []) same
    by ih false e = ih e

-- the top of a top's path is itself
pub top_path : (xs : List Act) (p : List ℕ) (a : Act) → AreFormed xs → act_in xs p ≡ Some a → is_top a.kind ≡ true →
    top_in (path xs p) ≡ Some a
top_path [] p a formed is top = absurd (cc is)
top_path (x ∷ older) p a formed is top = by (λ f. top_path older p a formed.1 f top) (bytes_eq x.label p) is
  where
    plain : (k : Kind) → x.kind ≡ k → is_serial k ≡ false → top_in (x ∷ []) ≡ Some x
    plain k same e = ap (λ b. cond b None (Some x)) (ap is_serial same ∙ e)

    shape : (k : Kind) (parent : Option (List ℕ)) → x.kind ≡ k → is_top k ≡ true → IsBelow older k parent →
        top_in (upwards parent k (path older) ++ x ∷ []) ≡ Some x
    shape kind.Top None same e b = plain kind.Top same refl
    shape kind.Top (Some q) same e b = absurd b
    shape kind.Independent None same e b = absurd b
    shape kind.Independent (Some q) same e b = plain kind.Independent same refl
    shape kind.Constituent None same e b = absurd b
    shape kind.Constituent (Some q) same e b =
        ap (λ us. top_in (us ++ x ∷ [])) (serial_path older q b.0 formed.1 b.1 b.2) ∙ ap (λ t. cond t (Some x) (Some b.0)) b.2
    shape kind.Nested parent same e b = absurd (cc e)
    shape kind.Serial parent same e b = absurd (cc e)

    by : (act_in older p ≡ Some a → top_in (path older p) ≡ Some a) → (t : Bool) → cond t (Some x) (act_in older p) ≡ Some a →
        top_in (cond t (upwards x.parent x.kind (path older) ++ x ∷ []) (path older p)) ≡ Some a
    by ih true e = let same : x ≡ a = cc e in
        shape x.kind x.parent refl (ap (λ (y : Act). is_top y.kind) same ∙ top) formed.0 ∙ ap Some same
    by ih false e = ih e

-- the path's top is this action
abbrev is_of : Act → List Act → Bool
is_of a p = holds_of (λ (t : Act). t.id == a.id) (top_in p)

called_step : (a : Act) (B : Book) (b : Body) → Right B b → AreSound B.acts → Tells a B.acts →
    (holds (is_of a) (committing_of B.acts b) || is_on B.called a.uid) ≡ is_on (let V = turned B b in V.called) a.uid
called_step a B (body.Committing l) right s t =
    let x = right.0 in
    let o = right.1 in
    ap (λ p. holds_of (λ (y : Act). y.id == a.id) p || is_on B.called a.uid) (top_path B.acts (name l) x s.formed o.named right.2)
    ∙ ap (λ b. b || is_on B.called a.uid) (t x (named_in B.acts (name l) x o.named))
    ∙ ap (λ us. is_on us a.uid) (sym (named_is B.acts l B.called x o.named))
called_step a B (body.Began l k u p) right s t = refl
called_step a B (body.Committed l) right s t = refl
called_step a B (body.Aborted l c) right s t = refl
called_step a B (body.Ended l) right s t = refl
called_step a B (body.Recovered n u) right s t = refl
called_step a B b right s t = refl

-- a commit was called by the journal as its book has it
pub called_is : (lines : List Line) → AreRight new_book lines → (a : Act) → In a (acts lines) →
    was_called (committings lines) a.id ≡ is_on (let B = book lines in B.called) a.uid
called_is lines right a there =
    sym (or_none (list_any (λ (m : Placed (List Act)). is_of a m.it) (committings lines)))
    ∙ reads a committing_of (is_of a) (λ B. is_on B.called a.uid) (called_step a) new_book 0 lines right new_sound
    (tells lines right a there)

-- ---- idle nodes

never_less : (n : ℕ) → nat_lt n n ≡ false
never_less n = grind (arith, nat_tests)

-- nothing that waits is there
none_waits : (ds : List Doing) (j : ℕ) (q : Doing) → not (list_any (λ (d : Doing). is_waiting_now d.now) ds) ≡ true →
    at_place j ds ≡ Some q → is_waiting_now q.now ≡ false
none_waits ds zero q none is = let no_way : ◌≡◌ {A = Option Doing} None (Some q) = is in absurd (cc no_way)
none_waits ds (suc j) q none is = go ds j none is
  where
    go : (ds : List Doing) (j : ℕ) → not (list_any (λ (d : Doing). is_waiting_now d.now) ds) ≡ true → slice_get ds j ≡ Some q →
        is_waiting_now q.now ≡ false
    go [] j none is = let no_way : ◌≡◌ {A = Option Doing} None (Some q) = is in absurd (cc no_way)
    go (d ∷ ds) zero none is = here (is_waiting_now d.now) refl none
      where
        same : d ≡ q
        same = some_is is

        here : (b : Bool) → is_waiting_now d.now ≡ b → not (b || list_any (λ (d : Doing). is_waiting_now d.now) ds) ≡ true →
            is_waiting_now q.now ≡ false
        here true on n = absurd (cc n)
        here false off n = ap (λ (x : Doing). is_waiting_now x.now) (sym same) ∙ off
    go (d ∷ ds) (suc j) none is = rest (is_waiting_now d.now) none (λ n. go ds j n is)
      where
        rest : (b : Bool) → not (b || list_any (λ (d : Doing). is_waiting_now d.now) ds) ≡ true →
            (not (list_any (λ (d : Doing). is_waiting_now d.now) ds) ≡ true → is_waiting_now q.now ≡ false) → is_waiting_now q.now ≡ false
        rest true n more = absurd (cc n)
        rest false n more = more n

idle_now : (x : Now) → is_waiting_now x ≡ false → (calling x ≡ None) × (is_committing_now x ≡ false)
idle_now Idle is = (refl, refl)
idle_now (Calling s) is = absurd (cc is)
idle_now (Committing m) is = absurd (cc is)

abbrev pub Tied : Moment → Type 0
Tied M = Wide Pathed M × AskedAreTied M

module _ (hd : Header) (p : Past) (w : World) (lines : p.lines ≡ w.lines) (h : Holds hd KnowsAll w) (f : Holds hd KnowsFinds w)
    (g : History)
    (told : IsToldBy p g) (tied : HoldsWith hd Tied g w) (idle : (n : ℕ) (x : Node) → at_place n w.nodes ≡ Some x → is_idle x ≡ true) where
  written : IsWritten (see h.sent w)
  written = let k = h.holds in k.0.1

  acts_are : (let X = book w.lines in X.acts) ≡ acts w.lines
  acts_are = its_acts w.lines written.right

  module _ (l : Label) (b : Labelled) (given : label_at l w.labels ≡ Some b) (n : Node) (there : at_place b.node w.nodes ≡ Some n) where
    ended_is : model.has_ended w.lines (name l) ≡ is_gone l n.live
    ended_is = ended_so hd w h f l b given n there

    -- an action that is there, open, at a node that is up
    module _ (t : Parts) (live : n.live ≡ Some t) (calm : not (list_any (λ (d : Doing). is_waiting_now d.now) t.coord.doings) ≡ true)
        (j : ℕ) (number : number_of l t.coord ≡ Some j) (x : Branch) (at : at_place j t.coord.tree.branches ≡ Some x)
        (opened : x.ended ≡ None)
      where
        up : KnowsUp (book w.lines) (let d = n.disk in d.intents) t.coord
        up = let k = written.nodes b.node n there in k.live t live

        names : HasNames t.coord
        names = let z = up.tops in z.names

        own_number : is_own (uid_at j t.coord) t.coord.tree ≡ true
        own_number = λ i. same_number t.coord.tree.node i && same_number t.coord.tree.inc i

        m : (k : Label) × (at_place j (names_of t.coord) ≡ Some k) × (name k ≡ name l)
        m = names.named l j number

        q : (d : Doing) × (at_place j t.coord.doings ≡ Some d) × (d.label ≡ (let z = m in z.0))
        q = label_there t.coord.doings j m.0 m.1

        its_branch : branch_of (uid_at j t.coord) t.coord.tree ≡ Some x
        its_branch = (λ i. cond (own_number i) (at_place j t.coord.tree.branches) None) ∙ at

        its_doing : doing_of (uid_at j t.coord) t.coord ≡ Some q.0
        its_doing = (λ i. cond (own_number i) (at_place j t.coord.doings) None) ∙ q.1

        its_name : name (let d = q.0 in d.label) ≡ name l
        its_name = ap name q.2 ∙ m.2

        now : (calling (let d = q.0 in d.now) ≡ None) × (is_committing_now (let d = q.0 in d.now) ≡ false)
        now = idle_now (let d = q.0 in d.now) (none_waits t.coord.doings j q.0 calm q.1)

        counted : count_answers w.lines (name l) ≡ length (asks_by p.accepted (name l))
        counted =
            let z = (let k = tied.now in let v = k.holds in v.1) in
            let its : IsTied g.askings w.lines (uid_at j t.coord) q.0 None =
            subst (λ o. IsTied g.askings w.lines (uid_at j t.coord) q.0 o) now.0 (z.tied b.node n t
            (uid_at j t.coord) q.0 there live its_doing) in
            ap (count_answers w.lines) (sym its_name) ∙ its ∙ ap (λ k. length (asks_by (accepted_of g.askings) k)) its_name
            ∙ ap (λ ks. length ks) (told.asks (name l))

        none_asked : unanswered p.accepted w.lines (name l) ≡ None
        none_asked = (λ i. if nat_lt (counted i) (length (asks_by p.accepted (name l)))
            then model.last_asked (asks_by p.accepted (name l)) else None)
            ∙ (λ i. if never_less (length (asks_by p.accepted (name l))) i then model.last_asked (asks_by p.accepted (name l)) else None)

        known : IsKnown (book w.lines) (uid_at j t.coord) x.kind x.ended (let d = q.0 in d.label)
        known = let k = up.knows in k.acts (uid_at j t.coord) x q.0 its_branch its_doing

        its_act : act_in (acts w.lines) (name l) ≡ Some known.act
        its_act = ap (λ xs. act_in xs (name l)) (sym acts_are) ∙ ap (act_in (let X = book w.lines in X.acts)) (sym its_name) ∙ known.named

        uncalled : was_called (committings w.lines) (let a = known.act in a.id) ≡ false
        uncalled = called_is w.lines written.right known.act (named_in (acts w.lines) (name l) known.act its_act)
            ∙ ap (is_on (let B = book w.lines in B.called)) known.uid
            ∙ (let c = up.calls in c (uid_at j t.coord) x q.0 its_branch its_doing opened) ∙ now.1

        open_calm : is_waiting p (name l) ≡ false
        open_calm =
            (λ i. is_some (model.waits_for p.accepted (lines i) (name l)) || model.is_committing (lines i) (name l))
            ∙ (λ i. is_some (if model.has_ended w.lines (name l) then None else option_map (λ (a : Asked). a.event) (none_asked i))
            || model.is_committing w.lines (name l))
            ∙ none_either (model.has_ended w.lines (name l))
            ∙ ap (holds_of (λ (a : Act). was_called (committings w.lines) a.id && not (is_over w.lines a))) its_act
            ∙ (λ i. uncalled i && not (is_over w.lines known.act))
          where
            none_either : (y : Bool) → (is_some {T = Event} (if y then None else None) || model.is_committing w.lines
                (name l)) ≡ model.is_committing w.lines (name l)
            none_either true = refl
            none_either false = refl

    -- one that has ended
    ended_calm : model.has_ended w.lines (name l) ≡ true → is_waiting p (name l) ≡ false
    ended_calm is =
        (λ i. is_some (model.waits_for p.accepted (lines i) (name l)) || model.is_committing (lines i) (name l))
        ∙ (λ i. is_some (if is i then None else option_map (λ (a : Asked). a.event) (unanswered p.accepted w.lines (name l)))
        || model.is_committing w.lines (name l))
        ∙ by (act_in (acts w.lines) (name l)) is
      where
        and_false : (y : Bool) → (y && false) ≡ false
        and_false true = refl
        and_false false = refl

        by : (o : Option Act) → model.is_over_act w.lines o ≡ true →
            holds_of (λ (a : Act). was_called (committings w.lines) a.id && not (is_over w.lines a)) o ≡ false
        by None over = refl
        by (Some a) over = (λ i. was_called (committings w.lines) a.id && not (over i)) ∙ and_false (was_called (committings w.lines) a.id)

    label_calm : is_waiting p (name l) ≡ false
    label_calm = by (model.has_ended w.lines (name l)) refl n.live refl (idle b.node n there)
      where
        branch : (t : Parts) → n.live ≡ Some t → not (list_any (λ (d : Doing). is_waiting_now d.now) t.coord.doings) ≡ true → (j : ℕ) →
            number_of l t.coord ≡ Some j → (o : Option Branch) → at_place j t.coord.tree.branches ≡ o → is_gone_branch o ≡ false →
            is_waiting p (name l) ≡ false
        branch t live calm j number None at gone = absurd (cc gone)
        branch t live calm j number (Some x) at gone = ends x.ended refl gone
          where
            ends : (o : Option End) → x.ended ≡ o → is_some o ≡ false → is_waiting p (name l) ≡ false
            ends None e off = open_calm t live calm j number x at e
            ends (Some z) e off = absurd (cc off)

        numbered_so : (t : Parts) → n.live ≡ Some t → not (list_any (λ (d : Doing). is_waiting_now d.now) t.coord.doings) ≡ true →
            (o : Option ℕ) → number_of l t.coord ≡ o → is_gone_branch (branch_numbered t.coord o) ≡ false → is_waiting p (name l) ≡ false
        numbered_so t live calm None number gone = absurd (cc gone)
        numbered_so t live calm (Some j) number gone = branch t live calm j number (at_place j t.coord.tree.branches) refl gone

        by : (c : Bool) → model.has_ended w.lines (name l) ≡ c → (o : Option Parts) → n.live ≡ o → is_idle_with n.disk n.live ≡ true →
            is_waiting p (name l) ≡ false
        by true is o live calm = ended_calm is
        by false is None live calm = absurd (cc (ap (is_idle_with n.disk) (sym live) ∙ calm))
        by false is (Some t) live calm =
            let parts = and_parts (not (list_any (λ (d : Doing). is_waiting_now d.now) t.coord.doings)) _
            (ap (is_idle_with n.disk) (sym live) ∙ calm) in
            numbered_so t live parts.0 (number_of l t.coord) refl (sym (ap (is_gone l) live) ∙ sym ended_is ∙ is)

  -- each action
  pub nobody_waits : (a : Act) → In a (acts p.lines) → is_waiting p a.label ≡ false
  nobody_waits a there =
      let i = all_in (IsGiven w.labels) (let X = book w.lines in X.acts) written.labels a
      (subst (In a) (ap acts lines ∙ sym acts_are) there) in
      ap (is_waiting p) (sym i.2) ∙ node i.0 i.1 i.3 (at_place (let b = i.1 in b.node) w.nodes) refl
      (all_labels (λ (q : Labelled). is_some (at_place q.node w.nodes) ≡ true) (is_at (label_cmp i.0)) i.1 w.labels h.stands.labels i.3)
    where
      all_in : {A : Type 0} (P : A → Type 0) (xs : List A) → AllByRecursion P xs → (x : A) → In x xs → P x
      all_in P [] all x i = absurd i
      all_in P (y ∷ ys) all x (inl same) = subst P same all.0
      all_in P (y ∷ ys) all x (inr i) = all_in P ys all.1 x i

      node : (l : Label) (b : Labelled) → label_at l w.labels ≡ Some b → (o : Option Node) → at_place b.node w.nodes ≡ o →
          is_some o ≡ true →
          is_waiting p (name l) ≡ false
      node l b given None at some = absurd (cc some)
      node l b given (Some n) at some = label_calm l b given n at
