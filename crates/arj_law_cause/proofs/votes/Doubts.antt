-- Each store that a commit marks for exclusion has answered its Prepare with a doubt, but those that a giveup marks.
use Rattle.arj_law_parts.proofs.Words
use Words.{⊤, ◌≡◌, ◌⊎◌, ◌∙◌, ◌==◌, ◌&&◌, ◌||◌, ◌+◌, ℕ, Bool, true, false, if◌then◌else◌, List, [], ◌∷◌, Option, Some, None, refl, sym}
use Words.{ap, subst, inl, inr, eqb-true, and_parts, AllByRecursion, map, is_serial}
use Words.{Ask, Asked, Disk, Do, Effect, Say, Send, Head, Header, Input, Kind, Label, Message, ObjectState, Parts, Post, Reply}
use Words.{Uid}
use Words.{answers, ask_kind, asks, reply_kind, Branch, Coord, actor, doing_of, has, heard, last_req, plan_for, root_at, root_of}
use Words.{Confirming, Machine, Plan, Preparing, Used, Voting, ask_of, begin_confirm, begin_prepare, begin_vote, marks_at, marks_store}
use Words.{marks_stores, servers_of, states_for, stores_left, targets_of, votes_left, with_number, without_number}
use Words.{waits_for_commit}
use Words.{acts as does, again_all, begin_action, parent_of, parts_in, restart_outs, tick_outs, stopped, worked, with_coord}
use Words.{Handled, Node, Took, Void, by_reply, handle, handle_answer, handle_ask, handle_other, serve}
use Words.body
use Words.commit
use Words.confirmed
use Words.input
use Words.prepared
use Words.voted
use Rattle.arj_law_lock_view.proofs.Terms.{first_up, same_number, some_is}
use Rattle.arj_law_serial.proofs.Terms.{disk_by}
use Rattle.arj_law_lock_view.proofs.facts.CommitCoords.{AreAt, IsNext, at_acts, at_again, at_begins, at_heard}
use Rattle.arj_law_parts.proofs.moves.Flat.{post}
use Rattle.arj_law_parts.specs.moves.Keeps.{is_act}
use Rattle.arj_law_parts.specs.moves.Moments.{Moment, asks_now, at, fits, framed_if, given, posted, said, sent, up}
use Rattle.arj_law_parts.specs.moves.Seen.{In}
use Rattle.arj_law_parts.specs.moves.With.{IsAtFirst, KeepsSteps, UpWith, WalksWith}
use Rattle.arj_law_cause.proofs.rows.Ending.{KeepsWorks, asked_works, other_works}
use Rattle.arj_law_cause.proofs.spelled.Lists.{all_marks}
use Rattle.arj_law_cause.proofs.votes.Filled.{none_new}

-- ---- what a commit marks

-- the store answered this request of the action with a doubt
pub record IsDoubt (sent : List Post) (k : ℕ) (u : Uid) (req s : ℕ) : Type 0 where
  pub message : Message
  pub there : In (record { from = s; to = k; message = message }) sent
  pub x : ℕ
  pub holder : Uid
  pub answer : answers message ≡ Some (record { act = u; req = req }, Reply.Prepared (prepared.InDoubt x holder))

abbrev pub AreDoubts : List Post → ℕ → Uid → ℕ → List (ℕ × ℕ) → Type 0
AreDoubts posts k u req ms = AllByRecursion (λ (m : ℕ × ℕ). IsDoubt posts k u req m.1) ms

-- Each mark of a commit that prepares is of such a store; while it votes there is none.
abbrev pub IsDoubted : List Post → ℕ → Uid → Machine → Type 0
IsDoubted posts k u (Voting p left) = p.excluded ≡ []
IsDoubted posts k u (Preparing p left) = AreDoubts posts k u p.req p.excluded
IsDoubted posts k u (Confirming p) = ⊤

-- so it is where more was sent
more_doubts : (few many : List Post) → ((p : Post) → In p few → In p many) → (k : ℕ) (u : Uid) (req : ℕ) (ms : List (ℕ × ℕ)) →
    AreDoubts few k u req ms → AreDoubts many k u req ms
more_doubts few many within k u req [] all = tt
more_doubts few many within k u req (m ∷ ms) all = (
  (let d = all.0 in record {
    message = d.message;
    there = within (record { from = m.1; to = k; message = d.message }) d.there;
    x = d.x;
    holder = d.holder;
    answer = d.answer;
  }),
  more_doubts few many within k u req ms all.1,
)

more_doubted : (few many : List Post) → ((p : Post) → In p few → In p many) → (k : ℕ) (u : Uid) (m : Machine) → IsDoubted few k u m →
    IsDoubted many k u m
more_doubted few many within k u (Voting p left) its = its
more_doubted few many within k u (Preparing p left) its = more_doubts few many within k u p.req p.excluded its
more_doubted few many within k u (Confirming p) its = tt

-- ---- the steps of a commit

module _ (posts : List Post) (k : ℕ) (u : Uid) where
  confirm_next : (us : List Used) (p : Plan) → IsNext (IsDoubted posts k) u (begin_confirm us p)
  confirm_next [] p = tt
  confirm_next (v ∷ vs) p = tt

  prepare_next : (p : Plan) → p.excluded ≡ [] → IsNext (IsDoubted posts k) u (begin_prepare (targets_of p) p)
  prepare_next p none = by (targets_of p)
    where
      by : (ns : List ℕ) → IsNext (IsDoubted posts k) u (begin_prepare ns p)
      by [] = confirm_next p.used p
      by (n ∷ ns) = subst (AreDoubts posts k u (p.req + 1)) (sym none) tt

  votes_next : (left : List ℕ) (p : Plan) → p.excluded ≡ [] → IsNext (IsDoubted posts k) u (votes_left left p)
  votes_next [] p none = prepare_next p none
  votes_next (n ∷ ns) p none = none

  stores_next : (left : List ℕ) (p : Plan) → AreDoubts posts k u p.req p.excluded → IsNext (IsDoubted posts k) u (stores_left left p).step
  stores_next [] p old = confirm_next p.used p
  stores_next (n ∷ ns) p old = old

  start_next : (p : Plan) → p.excluded ≡ [] → IsNext (IsDoubted posts k) u (commit.start p).step
  start_next p none = by (servers_of p)
    where
      by : (ns : List ℕ) → IsNext (IsDoubted posts k) u (begin_vote ns p)
      by [] = prepare_next p none
      by (n ∷ ns) = none

  given_next : (m : Machine) → IsDoubted posts k u m → IsNext (IsDoubted posts k) u (commit.given_up m).step
  given_next (Voting p left) its = tt
  given_next (Preparing p left) its = let q = marks_stores left p in confirm_next q.used q
  given_next (Confirming p) its = tt

  -- marks of one store
  each_mark : (s : ℕ) (req : ℕ) (sts : List ObjectState) → IsDoubt posts k u req s →
      AreDoubts posts k u req (map {A = ObjectState} {B = ℕ × ℕ} (λ st. ((let u = st.uid in u.num), s)) sts)
  each_mark s req [] its = tt
  each_mark s req (st ∷ sts) its = (its, each_mark s req sts its)

  store_marked : (s : ℕ) (p : Plan) → IsDoubt posts k u p.req s → AreDoubts posts k u p.req p.excluded →
      AreDoubts posts k u p.req (marks_store s p).excluded
  store_marked s p its old =
      all_marks (λ (m : ℕ × ℕ). IsDoubt posts k u p.req m.1) (marks_at s p) p.excluded (each_mark s p.req (states_for s p) its) old

  -- an answer that was sent here, of this action
  module _ (from : ℕ) (m : Message) (there : In (record { from = from; to = k; message = m }) posts) (a : Asked) (its_act : a.act ≡ u)
      (r : Reply) (answer : answers m ≡ Some (a, r)) where
    same_req : (p : Plan) (left : List ℕ) → waits_for_commit from a r (Preparing p left) ≡ true → p.req ≡ a.req
    same_req p left waits = eqb-true p.req a.req
        (and_parts (p.req == a.req) ((reply_kind r == ask_kind (ask_of (Preparing p left) from)) && has left from) waits).0

    doubt : (p : Plan) (left : List ℕ) (x : ℕ) (holder : Uid) → r ≡ Reply.Prepared (prepared.InDoubt x holder) →
        waits_for_commit from a r (Preparing p left) ≡ true → IsDoubt posts k u p.req from
    doubt p left x holder is waits = record {
      message = m;
      there = there;
      x = x;
      holder = holder;
      answer = answer ∙ (λ i. Some (record { act = its_act i; req = sym (same_req p left waits) i }, is i));
    }

    pub answered_next : (c : Machine) → waits_for_commit from a r c ≡ true → IsDoubted posts k u c →
        IsNext (IsDoubted posts k) u (commit.answered from c r).step
    answered_next c waits its = by c r refl waits its
      where
        by : (c : Machine) (q : Reply) → r ≡ q → waits_for_commit from a r c ≡ true → IsDoubted posts k u c →
            IsNext (IsDoubted posts k) u (commit.answered from c q).step
        by (Voting p left) (Reply.Voted (voted.Yes states)) is waits its =
            votes_next (without_number from left) (record p { changed = commit.with_states states p.changed }) its
        by (Voting p left) (Reply.Voted (voted.Changed w)) is waits its = tt
        by (Preparing p left) (Reply.Prepared prepared.Yes) is waits its =
            stores_next (without_number from left) (record p { prepared = with_number from p.prepared }) its
        by (Preparing p left) (Reply.Prepared (prepared.InDoubt x holder)) is waits its =
            stores_next (without_number from left) (marks_store from p) (store_marked from p (doubt p left x holder is waits) its)
        by (Preparing p left) (Reply.Prepared (prepared.Old x v)) is waits its = tt
        by (Confirming p) (Reply.Confirmed confirmed.Yes) is waits its = tt
        by (Confirming p) (Reply.Confirmed (confirmed.Conflict h m)) is waits its = tt
        by (Confirming p) (Reply.Confirmed (confirmed.Changed w)) is waits its = tt
        by (Confirming p) (Reply.Confirmed (confirmed.NoStores x)) is waits its = tt
        by (Confirming p) (Reply.Confirmed (confirmed.Listed x s)) is waits its = tt
        by c q is waits its = its

    -- what a step marks is so too
    left_so : (left : List ℕ) (p : Plan) → AreDoubts posts k u p.req p.excluded → AreDoubts posts k u p.req (stores_left left p).marks
    left_so [] p old = old
    left_so (n ∷ ns) p old = tt

    pub answered_marks : (p : Plan) (left : List ℕ) → waits_for_commit from a r (Preparing p left) ≡ true →
        AreDoubts posts k u p.req p.excluded → AreDoubts posts k u p.req (commit.answered from (Preparing p left) r).marks
    answered_marks p left waits its = by r refl
      where
        by : (q : Reply) → r ≡ q → AreDoubts posts k u p.req (commit.answered from (Preparing p left) q).marks
        by (Reply.Prepared prepared.Yes) is =
            left_so (without_number from left) (record p { prepared = with_number from p.prepared }) its
        by (Reply.Prepared (prepared.InDoubt x holder)) is =
            left_so (without_number from left) (marks_store from p) (store_marked from p (doubt p left x holder is waits) its)
        by (Reply.Prepared (prepared.Old x v)) is = tt
        by q is = tt

  -- a giveup marks the stores that haven't answered too
  abbrev pub IsLeftOr : ℕ → List ℕ → ℕ → Type 0
  IsLeftOr req left s = (has left s ≡ true) ⊎ IsDoubt posts k u req s

  module _ (req : ℕ) (all : List ℕ) where
    left_marks : (s : ℕ) (sts : List ObjectState) → has all s ≡ true →
        AllByRecursion (λ (m : ℕ × ℕ). IsLeftOr req all m.1)
        (map {A = ObjectState} {B = ℕ × ℕ} (λ st. ((let u = st.uid in u.num), s)) sts)
    left_marks s [] its = tt
    left_marks s (st ∷ sts) its = (inl its, left_marks s sts its)

    stores_marked : (ns : List ℕ) (p : Plan) → ((n : ℕ) → has ns n ≡ true → has all n ≡ true) →
        AllByRecursion (λ (m : ℕ × ℕ). IsLeftOr req all m.1) p.excluded →
        AllByRecursion (λ (m : ℕ × ℕ). IsLeftOr req all m.1) (marks_stores ns p).excluded
    stores_marked [] p within old = old
    stores_marked (n ∷ ns) p within old = stores_marked ns (marks_store n p) (λ j i. within j (more (n == j) (has ns j) i))
        (all_marks (λ (m : ℕ × ℕ). IsLeftOr req all m.1) (marks_at n p) p.excluded
        (left_marks n (states_for n p) (within n (λ i. same_number n i || has ns n))) old)
      where
        more : (x y : Bool) → y ≡ true → (x || y) ≡ true
        more true y is = refl
        more false y is = is

  pub given_marks : (p : Plan) (left : List ℕ) → AreDoubts posts k u p.req p.excluded →
      AllByRecursion (λ (m : ℕ × ℕ). IsLeftOr p.req left m.1) (commit.given_up (Preparing p left)).marks
  given_marks p left its = stores_marked p.req left left p (λ n i. i) (each p.excluded its)
    where
      each : (ms : List (ℕ × ℕ)) → AreDoubts posts k u p.req ms → AllByRecursion (λ (m : ℕ × ℕ). IsLeftOr p.req left m.1) ms
      each [] all = tt
      each (m ∷ ms) all = (inr all.0, each ms all.1)

-- ---- at each coordinator

abbrev pub Doubting : List Post → ℕ → Coord → Type 0
Doubting posts k c = AreAt (IsDoubted posts k) c

more_doubting : (few many : List Post) → ((p : Post) → In p few → In p many) → (k : ℕ) (c : Coord) → Doubting few k c → Doubting many k c
more_doubting few many within k c its u d m found now = more_doubted few many within k u m (its u d m found now)

-- at each node that is up
abbrev pub DoubtsAreSent : Moment → Type 0
DoubtsAreSent M = (j : ℕ) (n : Node) (t : Parts) → M.seen.nodes j ≡ Some n → n.live ≡ Some t → Doubting M.seen.sent j t.coord

none_is : {A P : Type 0} {x : A} → None ≡ Some x → P
none_is {A} {P} {x} is = let no_way : ◌≡◌ {A = Option A} None (Some x) = is in absurd (cc no_way)

-- ---- nodes but one

module _ (k : ℕ) where
  abbrev Off : Moment → Type 0
  Off N = (j : ℕ) (n : Node) (t : Parts) → (j == k) ≡ false → N.seen.nodes j ≡ Some n → n.live ≡ Some t → Doubting N.seen.sent j t.coord

  put : (d : Disk) (live : Option Parts) (N : Moment) → Off N → ((t : Parts) → live ≡ Some t → Doubting N.seen.sent k t.coord) →
      DoubtsAreSent (at k d live N)
  put d live N off own j n t there up_it = by (j == k) refl there
    where
      by : (b : Bool) → (j == k) ≡ b → (if b then Some (record { number = k; disk = d; live = live }) else N.seen.nodes j) ≡ Some n →
          Doubting N.seen.sent j t.coord
      by true is here = subst (λ i. Doubting N.seen.sent i t.coord) (sym (eqb-true j k is))
          (own t (ap (λ (z : Node). z.live) (some_is here) ∙ up_it))
      by false is here = off j n t is here up_it

  off_of : (d : Disk) (live : Option Parts) (M : Moment) → DoubtsAreSent (at k d live M) → Off M
  off_of d live M h j n t other there up_it =
      h j n t ((λ i. if other i then Some (record { number = k; disk = d; live = live }) else M.seen.nodes j) ∙ there) up_it

  pub own_of : (d : Disk) (t : Parts) (M : Moment) → DoubtsAreSent (up k d t M) → Doubting M.seen.sent k t.coord
  own_of d t M h = h k (record { number = k; disk = d; live = Some t }) t
      (λ i. if same_number k i then Some (record { number = k; disk = d; live = Some t }) else M.seen.nodes k) refl

  off_sent : (p : Post) (N : Moment) → Off N → Off (sent p N)
  off_sent p N h = by (p.to == p.from) (fits N)
    where
      grown : Off (posted p N)
      grown j n t other there up_it =
          more_doubting N.seen.sent (p ∷ N.seen.sent) (λ q i. inr i) j t.coord (h j n t other there up_it)

      by : (self fit : Bool) → Off (if self then posted p N else framed_if fit p N)
      by true fit = grown
      by false true = grown
      by false false = h

  own_sent : (c : Coord) (p : Post) (N : Moment) → Doubting N.seen.sent k c → (let O = sent p N in Doubting O.seen.sent k c)
  own_sent c p N h = by (p.to == p.from) (fits N)
    where
      grown : Doubting (p ∷ N.seen.sent) k c
      grown = more_doubting N.seen.sent (p ∷ N.seen.sent) (λ q i. inr i) k c h

      by : (self fit : Bool) → (let O = if self then posted p N else framed_if fit p N in Doubting O.seen.sent k c)
      by true fit = grown
      by false true = grown
      by false false = h

  walk : (v : Parts) (outs : List Effect) (d : Disk) (N : Moment) → Off N → Doubting N.seen.sent k v.coord →
      WalksWith DoubtsAreSent k outs (UpWith DoubtsAreSent k v) d N
  walk v [] d N off own = put d (Some v) N off (λ t is. subst (λ (z : Parts). Doubting N.seen.sent k z.coord) (some_is is) own)
  walk v (Do w ∷ es) d N off own = (
    (λ how. put (stopped how w d) None (said (body.Halted k ∷ []) N) off (λ t is. none_is is)),
    walk v es (worked w d) N off own,
  )
  walk v (Say b ∷ es) d N off own = walk v es d (said (b ∷ []) N) off own
  walk v (Send to m ∷ es) d N off own =
      walk v es d (sent (post k to m) N) (off_sent (post k to m) N off) (own_sent v.coord (post k to m) N own)

-- ---- one node

module _ (hd : Header) (k : ℕ) (d : Disk) (t : Parts) (M : Moment) (h : DoubtsAreSent (up k d t M)) where
  own : Doubting M.seen.sent k t.coord
  own = own_of k d t M h

  off : Off k M
  off = off_of k d (Some t) M h

  heard_so : (from : ℕ) (m : Message) → In (post from k m) M.seen.sent → (a : Asked) (r : Reply) → answers m ≡ Some (a, r) →
      Doubting M.seen.sent k (let q = heard from a r d.intents t.coord in q.part)
  heard_so from m there a r is = at_heard (IsDoubted M.seen.sent k) t.coord own from a r d.intents
      (λ w c found now waits its. answered_next M.seen.sent k a.act from m there a refl r is c waits its)

  abbrev LeftSo : Handled → Type 0
  LeftSo (Void outs) = ⊤
  LeftSo (Took v outs) = Doubting M.seen.sent k v.coord

  handled : (from : ℕ) (m : Message) → In (post from k m) M.seen.sent → LeftSo (handle k d t from m)
  handled from m there = by (asks m) refl
    where
      kept : (z : Handled) → KeepsWorks k d t from z → LeftSo z
      kept (Void outs) works = tt
      kept (Took v outs) works = λ u w c found now. own u w c (sym (works u) ∙ found) now

      answer : (o : Option (Asked × Reply)) → answers m ≡ o → LeftSo (handle_answer k d t from m o)
      answer None none = kept (handle_other k d t from m) (other_works k d t from m)
      answer (Some a) some = replied (let q = heard from a.0 a.1 d.intents t.coord in q.reply)
        where
          replied : (o : Option (Unit {0})) → LeftSo (by_reply (with_coord t (heard from a.0 a.1 d.intents t.coord).part)
              (heard from a.0 a.1 d.intents t.coord).outs o)
          replied None = tt
          replied (Some u) = heard_so from m there a.0 a.1 some

      by : (o : Option (Head × Ask)) → asks m ≡ o → LeftSo (handle_ask k d t from m o)
      by None none = answer (answers m) refl
      by (Some a) some = kept (serve k d t from a.0 a.1) (asked_works k d t from a.0 a.1)

  message_walk : (v : Parts) (from : ℕ) (m : Message) (outs : List Effect) → In (post from k m) M.seen.sent →
      handle k d t from m ≡ Took v outs → WalksWith DoubtsAreSent k outs (UpWith DoubtsAreSent k v) d M
  message_walk v from m outs there is = walk k v outs d M off (subst LeftSo is (handled from m there))

  act_walk : (i : Input) → is_act i ≡ true → (let did = does i d.intents t.coord in
      WalksWith DoubtsAreSent k did.outs (UpWith DoubtsAreSent k (with_coord t did.part)) d (asks_now i t.coord M))
  act_walk i is = let did = does i d.intents t.coord in walk k (with_coord t did.part) did.outs d (asks_now i t.coord M) off
      (at_acts (IsDoubted M.seen.sent k) t.coord own (given_next M.seen.sent k) starts i d.intents begins)
    where
      starts : (b : Branch) → let p = plan_for b.path (last_req (doing_of (actor b.path) t.coord)) (root_at (root_of b.path) t.coord)
          t.coord
          in IsNext (IsDoubted M.seen.sent k) (actor b.path) (commit.start p).step
      starts b = start_next M.seen.sent k (actor b.path)
          (plan_for b.path (last_req (doing_of (actor b.path) t.coord)) (root_at (root_of b.path) t.coord) t.coord) refl

      begins : (l : Label) (how : Kind) (parent : Option Label) → i ≡ input.Begin l how parent → ⊥
      begins l how parent same = let no_way : false ≡ true = sym (ap is_act same) ∙ is in cc no_way

  begin_walk : (l : Label) (how : Kind) (parent : Option Label) →
      (let did = begin_action l how parent (parent_of parent t.coord) t.coord in
      WalksWith DoubtsAreSent k did.outs (UpWith DoubtsAreSent k (with_coord t did.part)) d
      (given l (record { node = k; serial = is_serial how }) M))
  begin_walk l how parent = let did = begin_action l how parent (parent_of parent t.coord) t.coord in
      walk k (with_coord t did.part) did.outs d (given l (record { node = k; serial = is_serial how }) M) off
      (at_begins (IsDoubted M.seen.sent k) t.coord own l how parent)

  tick_walk : WalksWith DoubtsAreSent k (tick_outs (record { number = k; disk = d; live = Some t }) t)
      (UpWith DoubtsAreSent k (with_coord t (again_all t.coord.doings t.coord).part)) d M
  tick_walk = walk k (with_coord t (again_all t.coord.doings t.coord).part) (tick_outs (record { number = k; disk = d; live = Some t }) t)
      d M off (at_again (IsDoubted M.seen.sent k) t.coord.doings t.coord own)

-- ---- every handler

pub doubts_steps : (hd : Header) → KeepsSteps hd DoubtsAreSent
doubts_steps hd = record {
  quiet = λ bs M plain h. h;
  junk = λ n M fit h. h;
  stop = λ k d live M h. put k d None (said (body.Halted k ∷ []) M) (off_of k d live M h) (λ t is. none_is is);
  message = λ k d t v from m outs M h there meant may is. message_walk hd k d t M h v from m outs there is;
  act = λ k d t i M is brings first asks free h. act_walk hd k d t M h i is;
  begin = λ k d t l how parent M brings first new gives none h. begin_walk hd k d t M h l how parent;
  tick = λ k d t M h. tick_walk hd k d t M h;
  restart = λ k d M event first h. walk k (parts_in k (d.inc + 1) d) (restart_outs hd k (d.inc + 1) d) d M (off_of k d None M h)
      (none_new (IsDoubted M.seen.sent k) k (d.inc + 1) d.intents);
}

pub first_doubts : (hd : Header) → IsAtFirst hd DoubtsAreSent
first_doubts hd st formed j n t there live =
    subst (λ (z : Parts). Doubting [] j z.coord) (first_up hd st j n t there live) (none_new (IsDoubted [] j) j (st.incs j + 1)
    (let z = disk_by hd st j in z.intents))
