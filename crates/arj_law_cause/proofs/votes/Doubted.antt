-- What a store's answer to a Prepare says, where it is a doubt: that the commit was called, of which object of the header it is, and of
-- whom. So it is of each store that a commit under way has marked, unless a giveup does.
use Rattle.arj_law_parts.proofs.Words
use Words.{⊤, ◌≡◌, ◌⊎◌, ◌∙◌, ◌==◌, ◌++◌, ℕ, Bool, true, false, if◌then◌else◌, List, [], ◌∷◌, Some}
use Words.{refl}
use Words.{sym, ap, subst, inl, inr, ⊎_elim, is_some, and_parts, eqb-true, In}
use Words.{Ask, Asked, Disk, Do, Effect, Say, Send, Head, Header, Line, Message, ObjectState, Parts, Prep, PreparedReply, Reply}
use Words.{Look, Prepare, Ready, Already, InDoubt, Old, Node, Seen, Uid, actor, asked_by, asks, first_refusal, is_prepared}
use Words.{prepare_answer, prepare_by, response, sends_answer, serve, handle_ask, Took, Void}
use Words.{Plan, Preparing, states_for, Committing, Doing, doing_of, is_own, name}
use Words.ask
use Words.body
use Words.frame
use Words.prepared
use Words.role
use Rattle.arj_promise.specs.Runs.{HeaderFits}
use Rattle.arj_law_lock_view.proofs.Terms.{same_number, some_is}
use Rattle.arj_law_lock_view.proofs.facts.Requests.{requests_keep}
use Rattle.arj_law_lock_view.specs.facts.Requests.{IsAskedBy, RequestsAreKnown}
use Rattle.arj_law_lock_view.specs.moments.Made.{AnswersAreMade, AnswersTo, BeginsWith, Saying, Tells, lines_behind}
use Rattle.arj_law_parts.proofs.moves.Happens.{Wide, keeps_asked}
use Rattle.arj_law_parts.specs.moves.Moments.{Moment, up}
use Rattle.arj_law_parts.specs.moves.Seen as seen
use Rattle.arj_law_parts.specs.parts.Requests.{IsNumbered}
use Rattle.arj_law_promise.proofs.meant.Requests.{meant_keep}
use Rattle.arj_law_promise.specs.meant.Meant.{AskFits, MeantAreKnown}
use Rattle.arj_law_runs.proofs.follow.Halts.{KnowsAll, halts_keep}
use Rattle.arj_law_serial.proofs.Terms.{up_of}
use Rattle.arj_law_serial.proofs.joint.{Clean.object_some, MarkRuns.own_doing}
use Rattle.arj_model.specs.Actions.{Act, act_in, acts}
use Rattle.arj_model.specs.Last.{object_line}
use Rattle.arj_model.specs.Past.{Asked as AskedOf}
use Rattle.arj_law_cause.proofs.confirm.{Called.BasedCalled, Called.called_keep, Called.called_more, Called.is_called, Olds.each_has}
use Rattle.arj_law_cause.proofs.confirm.{Reached.Reached, Reached.reached_has}
use Rattle.arj_law_cause.proofs.rows.Running.{Inner as Watching, tells}
use Rattle.arj_law_cause.proofs.rows.{Telling.behind_said, Telling.doubt_first, Telling.doubt_found}
use Rattle.arj_law_cause.proofs.rows.Telling.{outs_in, same_reply}
use Rattle.arj_law_cause.proofs.rows.Stores.{MayStore, stores_later}
use Rattle.arj_law_cause.proofs.votes.{Asks.AskStored, Asks.AsksAreChanged, Asks.StoresEach, Asks.changed_keep, Doubts.IsDoubt}
use Rattle.arj_law_cause.proofs.waits.waiting.Acting.{Stands}
use Rattle.arj_law_cause.proofs.waits.waiting.Acting as acting
use Rattle.arj_law_cause.specs.rows.Says as rows
use Rattle.arj_law_cause.specs.rows.Tables.{Tables}

-- ---- what is said

-- the commit was called, of an object of the header, of which the store may be one, and of whom is so
abbrev pub says_doubt : List AskedOf → Header → ℕ → Head → Ask → Reply → List Line → Type 0
says_doubt A hd n h (ask.Prepare states) (Reply.Prepared (prepared.InDoubt y u)) before = is_called before (actor h.path)
    × (is_some (object_line hd y) ≡ true) × MayStore hd before y n
    × rows.says_of A hd n h (ask.Prepare states) (Reply.Prepared (prepared.InDoubt y u)) before
says_doubt A hd n h a r before = ⊤

abbrev pub doubts_so : List AskedOf → Header → Saying
doubts_so A hd a before = says_doubt A hd (let z = a in z.from) (let z = a in z.head) (let z = a in z.ask) (let z = a in z.reply) before

-- ---- where the store serves it

module _ (A : List AskedOf) (hd : Header) (form : HeaderFits hd) (before : List Line) (event : ℕ)
    (early : (j : ℕ) → (event == up_of j before) ≡ false) (k : ℕ) (d : Disk) (t v : Parts) (from : ℕ) (m : Message) (h : Head)
    (states : List ObjectState) (r : Reply) (front : List Effect)
    (M : Moment) (known : Wide (Reached hd) (up k d t M)) (there : seen.In (record { from = from; to = k; message = m }) M.seen.sent)
    (asking : asks m ≡ Some (h, ask.Prepare states))
    (so : rows.says_of A hd k h (ask.Prepare states) r (lines_behind M.past.number front M.seen.lines)) where
  abbrev Z : Seen
  Z = let N = up k d t M in seen.with_sent known.0 N.seen

  its_post : seen.In (record { from = from; to = k; message = m }) known.0
  its_post = known.1 (record { from = from; to = k; message = m }) there

  called : is_called (lines_behind M.past.number front M.seen.lines) (actor h.path)
  called = subst (λ ls. is_called ls (actor h.path)) (sym (behind_said M.past.number front M.seen.lines)) (called_more M.seen.lines _
      (actor h.path) ((reached_has hd BasedCalled (called_keep hd) (let N = up k d t M in seen.with_sent known.0 N.seen) known.2).1
      (record { from = from; to = k; message = m }) h (ask.Prepare states) its_post asking))

  fits : AskFits hd (ask.Prepare states)
  fits = let all : MeantAreKnown hd Z = reached_has hd (MeantAreKnown hd) (meant_keep hd form) Z known.2 in
      all.1 (record { from = from; to = k; message = m }) h (ask.Prepare states) its_post asking

  stores : StoresEach hd (lines_behind M.past.number front M.seen.lines) k states
  stores = subst (λ ls. StoresEach hd ls k states) (sym (behind_said M.past.number front M.seen.lines))
      (λ s i. stores_later hd M.seen.lines _ (let u = s.uid in u.num) k (its s i))
    where
      its : StoresEach hd M.seen.lines k states
      its = subst (AskStored hd M.seen.lines k) asking ((reached_has hd (λ N. Reached hd N × AsksAreChanged hd N) (changed_keep hd form)
          Z known.2).1 (record { from = from; to = k; message = m }) its_post).1

  of_header : (s : ObjectState) → In s states → is_some (object_line hd (let u = s.uid in u.num)) ≡ true
  of_header s i = object_some hd (let u = s.uid in u.num) (each_has hd states fits.1 s i)

  doubt_says : serve k d t from h (ask.Prepare states) ≡ Took v (front ++ Send from (response (asked_by h) r) ∷ []) →
      says_doubt A hd k h (ask.Prepare states) r (lines_behind M.past.number front M.seen.lines)
  doubt_says is = by (is_prepared (actor h.path) d.store) (prepare_answer (actor h.path) states d.store) refl is
    where
      -- an answer that is no doubt
      other : (q : PreparedReply) → r ≡ Reply.Prepared q → ((y : ℕ) (u : Uid) → q ≡ prepared.InDoubt y u → ⊥) →
          says_doubt A hd k h (ask.Prepare states) r (lines_behind M.past.number front M.seen.lines)
      other prepared.Yes its off =
          subst (λ z. says_doubt A hd k h (ask.Prepare states) z (lines_behind M.past.number front M.seen.lines)) (sym its) tt
      other (prepared.Old y n) its off =
          subst (λ z. says_doubt A hd k h (ask.Prepare states) z (lines_behind M.past.number front M.seen.lines)) (sym its) tt
      other (prepared.InDoubt y u) its off = absurd (off y u refl)

      reply_of : (q : PreparedReply) (es : List Effect) → Took t (es ++ Send from (response (asked_by h) (Reply.Prepared q)) ∷ []) ≡
          Took v (front ++ Send from (response (asked_by h) r) ∷ []) → r ≡ Reply.Prepared q
      reply_of q es f = same_reply from h r (Reply.Prepared q) front es (sym (ap outs_in f))

      by : (b : Bool) (a : Prep) → prepare_answer (actor h.path) states d.store ≡ a →
          (if b then sends_answer from h t [] (Some (Reply.Prepared prepared.Yes)) else prepare_by k states from h t a)
          ≡ Took v (front ++ Send from (response (asked_by h) r) ∷ []) →
          says_doubt A hd k h (ask.Prepare states) r (lines_behind M.past.number front M.seen.lines)
      by true a at f = other prepared.Yes (reply_of prepared.Yes [] f) (λ y u z. cc z)
      by false Ready at f = other prepared.Yes (reply_of prepared.Yes
          (Do Look ∷ Do (Prepare role.Store (actor h.path) states) ∷ Say (body.Prepared k (actor h.path) role.Store) ∷ []) f)
          (λ y u z. cc z)
      by false (Already u) at f =
          let no_way : Void (Do Look ∷ []) ≡ Took v (front ++ Send from (response (asked_by h) r) ∷ []) = f in absurd (cc no_way)
      by false (Old u n) at f = other (prepared.Old (let z = u in z.num) n) (reply_of (prepared.Old (let z = u in z.num) n)
          (Do Look ∷ []) f) (λ y w z. cc z)
      by false (InDoubt u w) at f =
          let same : r ≡ Reply.Prepared (prepared.InDoubt (let z = u in z.num) w) =
          reply_of (prepared.InDoubt (let z = u in z.num) w) (Do Look ∷ []) f in
          let found = doubt_found (actor h.path) d.store states u w (doubt_first (first_refusal (actor h.path) d.store states) u w at) in
          subst (λ z. says_doubt A hd k h (ask.Prepare states) z (lines_behind M.past.number front M.seen.lines)) (sym same) (
            called,
            subst (λ (z : Uid). is_some (object_line hd z.num) ≡ true) found.2 (of_header found.0 found.1),
            subst (λ (z : Uid). MayStore hd (lines_behind M.past.number front M.seen.lines) z.num k) found.2 (stores found.0 found.1),
            subst (λ z. rows.says_of A hd k h (ask.Prepare states) z (lines_behind M.past.number front M.seen.lines)) same so,
          )

pub tells_doubts : (A : List AskedOf) (hd : Header) → HeaderFits hd → (before : List Line) (event : ℕ) →
    ((j : ℕ) → (event == up_of j before) ≡ false) →
    Tells (λ M. Tables hd before event M × Watching A hd M) (doubts_so A hd)
tells_doubts A hd form before event early k d t v from m h (ask.Prepare states) r front M known there other meant asking new is =
    let z = known.1.0 in
    doubt_says A hd form before event early k d t v from m h states r front M (z.0, z.1, z.2.1) there asking
    (tells A hd before event early k d t v from m h (ask.Prepare states) r front M known there other meant asking new is)
    (sym (ap (handle_ask k d t from m) asking) ∙ is)
tells_doubts A hd form before event early k d t v from m h (ask.Confirm grants x y) r front M known there other meant asking new is = tt
tells_doubts A hd form before event early k d t v from m h (ask.Bind x include avoid) r front M known there other meant asking new is = tt
tells_doubts A hd form before event early k d t v from m h (ask.Load x) r front M known there other meant asking new is = tt
tells_doubts A hd form before event early k d t v from m h (ask.Activate b st) r front M known there other meant asking new is = tt
tells_doubts A hd form before event early k d t v from m h (ask.Record x b i g) r front M known there other meant asking new is = tt
tells_doubts A hd form before event early k d t v from m h (ask.Invoke x b i ends op) r front M known there other meant asking new is = tt
tells_doubts A hd form before event early k d t v from m h (ask.Vote i ties ends) r front M known there other meant asking new is = tt

-- ---- what is known of a store that answered so

-- By these lines the store answered the action's Prepare at a place behind the call of its commit, by a doubt of an object of the header.
pub record WasDoubted (A : List AskedOf) (hd : Header) (lines : List Line) (u : Uid) (s : ℕ) : Type 0 where
  pub before : List Line
  pub after : List Line
  pub are : lines ≡ before ++ after
  pub called : is_called before u
  pub framed : (s ≡ u.node) ⊎ BeginsWith s u.node frame.Prepared after
  pub object : ℕ
  pub of_header : is_some (object_line hd object) ≡ true
  pub stored : MayStore hd before object s
  pub holder : Uid
  pub head : Head
  pub asker : actor head.path ≡ u
  pub states : List ObjectState
  pub so : rows.says_of A hd s head (ask.Prepare states) (Reply.Prepared (prepared.InDoubt object holder)) before

-- the action with this Uid, by what it does
pub record HasAct (lines : List Line) (u : Uid) (w : Doing) : Type 0 where
  pub act : Act
  pub named : act_in (acts lines) (name w.label) ≡ Some act
  pub uid : act.uid ≡ u

module _ (A : List AskedOf) (hd : Header) (k : ℕ) (d : Disk) (t : Parts) (M : Moment) (known : Wide (Reached hd) (up k d t M))
    (made : AnswersAreMade (doubts_so A hd) (up k d t M)) (u : Uid) (w : Doing) (p : Plan) (left : List ℕ)
    (found : doing_of u t.coord ≡ Some w) (now : w.now ≡ Committing (Preparing p left)) where
  abbrev S : Seen
  S = let N = up k d t M in seen.with_sent known.0 N.seen

  abbrev mine : Node
  mine = record { number = k; disk = d; live = Some t }

  here : (let N = up k d t M in N.seen.nodes k) ≡ Some (record { number = k; disk = d; live = Some t })
  here = λ i. if same_number k i then Some (record { number = k; disk = d; live = Some t }) else M.seen.nodes k

  all : KnowsAll S
  all = reached_has hd KnowsAll (keeps_asked hd KnowsAll (halts_keep hd)) S known.2

  stands : Stands S all k mine t here refl u w
  stands = acting.stands S all k mine t here refl u w found

  own : is_own u t.coord.tree ≡ true
  own = own_doing u t.coord w found

  home : k ≡ u.node
  home = sym (eqb-true u.node t.coord.tree.node (and_parts (u.node == t.coord.tree.node) (u.inc == t.coord.tree.inc) own).0
      ∙ acting.node_is S all k mine t here refl)

  numbered_so : p.req ≡ w.req
  numbered_so = (subst (IsNumbered w.req) now (acting.numbered S all k mine t here refl u w found)).0

  pub its_act : HasAct M.seen.lines u w
  its_act = record { act = (let s = stands in s.act); named = (let s = stands in s.named); uid = (let s = stands in s.uid) }

  module _ (s : ℕ) (heard : IsDoubt M.seen.sent k u p.req s) where
    ans : AnswersTo (doubts_so A hd) ⊥ (up k d t M) s k (record { act = u; req = p.req })
        (Reply.Prepared (prepared.InDoubt heard.x heard.holder))
    ans = made.sent (record { from = s; to = k; message = heard.message }) (record { act = u; req = p.req })
        (Reply.Prepared (prepared.InDoubt heard.x heard.holder)) heard.there heard.answer

    asker : actor (let h = ans.0 in h.path) ≡ u
    asker = ap (λ (b : Asked). b.act) ans.2

    asked_for : IsAskedBy t.coord (let z = ans.3 in let r = z.request in r.to) ans.0 ans.1
    asked_for =
        let z = ans.3 in
        let known_now : RequestsAreKnown S = reached_has hd RequestsAreKnown (keeps_asked hd RequestsAreKnown (requests_keep hd)) S known.2
        in
        known_now.1 k mine t here refl z.request ans.0 ans.1 (known.1 z.request z.posted) z.from
        z.asking (ap (λ v. is_own v t.coord.tree) asker ∙ own)

    doing_is : (let z = asked_for in z.doing) ≡ w
    doing_is = let z = asked_for in some_is (sym z.found ∙ ap (λ v. doing_of v t.coord) asker ∙ found)

    its_ask : ans.1 ≡ ask.Prepare (states_for s p)
    its_ask = let z = asked_for in let q = ans.3 in (z.commit (Preparing p left) (ap (λ (x : Doing). x.now) doing_is ∙ now)
        (ap (λ (b : Asked). b.req) ans.2 ∙ numbered_so ∙ ap (λ (x : Doing). x.req) (sym doing_is))).1
        ∙ ap (λ n. ask.Prepare (states_for n p)) q.to

    so : says_doubt A hd s ans.0 (ask.Prepare (states_for s p)) (Reply.Prepared (prepared.InDoubt heard.x heard.holder))
        (let z = ans.3 in z.made.before)
    so = let z = ans.3 in subst (λ b. says_doubt A hd s ans.0 b (Reply.Prepared (prepared.InDoubt heard.x heard.holder)) z.made.before)
        its_ask z.made.so

    pub was_doubted : WasDoubted A hd M.seen.lines u s
    was_doubted = record {
      before = (let z = ans.3 in z.made.before);
      after = (let z = ans.3 in z.made.after);
      are = (let z = ans.3 in z.made.are);
      called = subst (is_called (let z = ans.3 in z.made.before)) asker so.0;
      framed = (let z = ans.3 in ⊎_elim (λ same. inl (same ∙ home))
          (λ f. ⊎_elim (λ begins. inr (subst (λ j. BeginsWith s j frame.Prepared z.made.after) home begins)) (λ never. absurd never) f)
          z.made.framed);
      object = heard.x;
      of_header = so.1;
      stored = so.2;
      holder = heard.holder;
      head = ans.0;
      asker = asker;
      states = states_for s p;
      so = so.3;
    }
