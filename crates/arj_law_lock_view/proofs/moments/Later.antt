-- What is said of answers goes on to hold: as lines are said, as messages are sent, and where a node stops.
use Rattle.arj_law_parts.proofs.Words
use Words.{◌≡◌, ◌⊎◌, ◌∙◌, ◌==◌, ◌+◌, ℕ, Bool, true, false, cond, if◌then◌else◌, List, [], ◌∷◌, ◌++◌, length, refl, sym, ap, subst, inl}
use Words.{inr, ⊎_elim}
use Words.{append-nil, append_assoc, arith, length-append, Option, Some, None, AllByRecursion, Ask, Asked, Body, Head}
use Words.{Line, Uid, asks, Reply, answers, asked_by, frame_kind, response, Disk, Do, Effect, Say, Send}
use Words.{stopped, worked}
use Words.{⊤, numbered, Parts, Kept, Node, eqb-true, Post}
use Words.body
use Words.list
use Rattle.arj_law_lock_view.proofs.Terms.{other_number, same_number, some_is}
use Rattle.arj_law_parts.proofs.moves.Flat.{post}
use Rattle.arj_law_parts.specs.moves.Moments.{Asking, Moment, at, fits, framed_if, halted, posted, said, sent, up}
use Rattle.arj_law_parts.specs.moves.Seen.{In, Within}
use Rattle.arj_law_parts.specs.moves.With.{WalksWith}
use Rattle.arj_law_runs.proofs.calls.WorldSteps.{reads_back}
use Rattle.arj_protocol.specs.Words.{FrameKind}
use Rattle.arj_law_lock_view.specs.moments.Made.{Answer, AnswersAreMade, AnswersTo, AreBefore, AreKeptSo, AreMade, BeginsWith, IsAnswered}
use Rattle.arj_law_lock_view.specs.moments.Made.{IsMade, Saying, answer_kind, lines_behind}

pub none_is : {A : Type 0} {x : A} → None ≡ Some x → ⊥
none_is {A} {x} is = let no_way : ◌≡◌ {A = Option A} None (Some x) = is in cc

pub never : {A : Type 0} {b : Bool} → b ≡ true → b ≡ false → A
never holds fails = let no_way : true ≡ false = sym holds ∙ fails in absurd (cc no_way)

begins_on : (from to : ℕ) (what : FrameKind) (ls more : List Line) → BeginsWith from to what ls → BeginsWith from to what (ls ++ more)
begins_on from to what [] more h = absurd h
begins_on from to what (l ∷ ls) more h = h

-- a later moment: more lines and messages, and nothing asked since; once frames don't fit, they never do
pub record Later (M N : Moment) : Type 0 where
  pub more : List Line
  pub lines : N.seen.lines ≡ M.seen.lines ++ more
  pub askings : N.past.askings ≡ M.past.askings
  pub sent : Within M.seen.sent N.seen.sent
  pub full : fits M ≡ false → fits N ≡ false

-- ---- effects that send no answer, or nothing

-- it sends no answer
abbrev pub IsMute : Effect → Type 0
IsMute (Send to m) = answers m ≡ None
IsMute (Say b) = ⊤
IsMute (Do w) = ⊤

abbrev pub AreMute : List Effect → Type 0
AreMute outs = AllByRecursion IsMute outs

-- it sends nothing
abbrev pub IsSilent : Effect → Type 0
IsSilent (Send to m) = ⊥
IsSilent (Say b) = ⊤
IsSilent (Do w) = ⊤

abbrev pub AreSilent : List Effect → Type 0
AreSilent outs = AllByRecursion IsSilent outs

-- the moment behind effects that send nothing
abbrev pub behind_outs : List Effect → Moment → Moment
behind_outs [] M = M
behind_outs (Say b ∷ es) M = behind_outs es (said (b ∷ []) M)
behind_outs (Send to m ∷ es) M = behind_outs es M
behind_outs (Do w ∷ es) M = behind_outs es M

pub behind_is : (outs : List Effect) (M : Moment) →
    (let N = behind_outs outs M in N.seen.lines) ≡ lines_behind M.past.number outs M.seen.lines
behind_is [] M = refl
behind_is (Say b ∷ es) M = behind_is es (said (b ∷ []) M)
behind_is (Send to m ∷ es) M = behind_is es M
behind_is (Do w ∷ es) M = behind_is es M

module _ (S : Saying) where
  pub made_more : (lost gone : Type 0) (askings : List Asking) (lines more : List Line) (a : Answer) → (lost → gone) →
      IsMade S lost askings lines a → IsMade S gone askings (lines ++ more) a
  made_more lost gone askings lines more a to h = record {
    before = h.before;
    after = h.after ++ more;
    are = ap (λ ls. ls ++ more) h.are ∙ append_assoc h.before h.after more;
    behind = h.behind;
    framed = ⊎_elim (λ same. inl same) (λ f. inr (⊎_elim (λ b. inl (begins_on a.from a.to (answer_kind a) h.after more b))
        (λ l. inr (to l)) f))
        h.framed;
    so = h.so;
  }

  pub answered_later : (lost gone : Type 0) (M N : Moment) (a : Answer) → (lost → gone) → Later M N → IsAnswered S lost M a →
      IsAnswered S gone N a
  answered_later lost gone M N a to later h = record {
    request = h.request;
    posted = later.sent h.request h.posted;
    asking = h.asking;
    to = h.to;
    from = h.from;
    made = subst (λ ls. IsMade S gone N.past.askings ls a) (sym later.lines)
        (subst (λ asked. IsMade S gone asked (M.seen.lines ++ later.more) a)
        (sym later.askings) (made_more lost gone M.past.askings M.seen.lines later.more a to h.made));
  }

  pub to_later : (lost gone : Type 0) (M N : Moment) (from to : ℕ) (a : Asked) (r : Reply) → (lost → gone) → Later M N →
      AnswersTo S lost M from to a r → AnswersTo S gone N from to a r
  to_later lost gone M N from to a r go later h =
      (h.0, h.1, h.2, answered_later lost gone M N (record { from = from; to = to; head = h.0; ask = h.1; reply = r }) go later h.3)

  pub kept_later : (M N : Moment) (j : ℕ) (es : List (Uid × Kept)) → Later M N → AreKeptSo S M j es → AreKeptSo S N j es
  kept_later M N j [] later all = tt
  kept_later M N j (e ∷ es) later all = (
    to_later (fits M ≡ false) (fits N ≡ false) M N j e.0.node (record { act = e.0; req = e.1.req }) (Reply.Invoked e.1.answer) later.full
        later all.0,
    kept_later M N j es later all.1,
  )

  pub before_later : (M N : Moment) → Later M N → AreBefore M → AreBefore N
  before_later M N later h k there =
      let old = h k (subst (λ ks. list.In k ks) later.askings there) in
      let long = length-append M.seen.lines later.more in
      let same = ap (λ (ls : List Line). length ls) later.lines in
      omega (arith, old, long, same)

  -- ---- beside a node

  -- so it is of all that was sent, of the other nodes, and of what this one's server kept
  pub record Carried (k : ℕ) (t : Parts) (M : Moment) : Type 0 where
    pub sent : AreMade S M
    pub others : (j : ℕ) (n : Node) (u : Parts) → (j ≡ k → ⊥) → M.seen.nodes j ≡ Some n → n.live ≡ Some u →
        AreKeptSo S M j (let s = u.server in s.kept)
    pub own : AreKeptSo S M k (let s = t.server in s.kept)
    pub asked : AreBefore M

  -- what is new among what was sent is no answer
  abbrev pub AddsNone : Moment → Moment → Type 0
  AddsNone M N = (p : Post) → In p N.seen.sent → In p M.seen.sent ⊎ (answers p.message ≡ None)

  pub carried_later : (k : ℕ) (t : Parts) (M N : Moment) → Later M N → ((j : ℕ) → N.seen.nodes j ≡ M.seen.nodes j) → AddsNone M N →
      Carried k t M → Carried k t N
  carried_later k t M N later nodes adds h = record {
    sent = λ p a r there is. ⊎_elim
        (λ old. to_later ⊥ ⊥ M N p.from p.to a r (λ l. l) later (h.sent p a r old is))
        (λ none. absurd (none_is (sym none ∙ is))) (adds p there);
    others = λ j n u apart is live. kept_later M N j u.server.kept later (h.others j n u apart (sym (nodes j) ∙ is) live);
    own = kept_later M N k t.server.kept later h.own;
    asked = before_later M N later h.asked;
  }

  later_said : (bs : List Body) (M : Moment) → Later M (said bs M)
  later_said bs M = record { more = numbered M.past.number bs; lines = refl; askings = refl; sent = λ p i. i; full = λ f. f }

  pub carried_said : (k : ℕ) (t : Parts) (bs : List Body) (M : Moment) → Carried k t M → Carried k t (said bs M)
  carried_said k t bs M h = carried_later k t M (said bs M) (later_said bs M) (λ j. refl) (λ p i. inl i) h

  later_posted : (p : Post) (M : Moment) → Later M (posted p M)
  later_posted p M =
      record { more = []; lines = sym (append-nil M.seen.lines); askings = refl; sent = λ q i. inr i; full = λ f. f }

  later_framed : (p : Post) (M : Moment) → fits M ≡ true → Later M (framed_if true p M)
  later_framed p M fit = record {
    more = numbered M.past.number (body.Sent (M.past.frames + 1) p.from p.to (frame_kind p.message) ∷ []);
    lines = refl;
    askings = refl;
    sent = λ q i. inr i;
    full = λ full. never fit full;
  }

  pub carried_mute : (k : ℕ) (t : Parts) (p : Post) (M : Moment) → answers p.message ≡ None → Carried k t M → Carried k t (sent p M)
  carried_mute k t p M none h = by (p.to == p.from) (fits M) refl
    where
      adds : (q : Post) (qs : List Post) → In q (p ∷ qs) → In q qs ⊎ (answers q.message ≡ None)
      adds q qs (inl same) = inr (ap (λ (z : Post). answers z.message) (sym same) ∙ none)
      adds q qs (inr old) = inl old

      by : (self fit : Bool) → fits M ≡ fit → Carried k t (if self then posted p M else framed_if fit p M)
      by true fit is = carried_later k t M (posted p M) (later_posted p M) (λ j. refl) (λ q i. adds q M.seen.sent i) h
      by false true is = carried_later k t M (framed_if true p M) (later_framed p M is) (λ j. refl) (λ q i. adds q M.seen.sent i) h
      by false false is = h

  -- ---- a node in another state

  node_at : (k : ℕ) (d : Disk) (live : Option Parts) (M : Moment) (j : ℕ) (n : Node) → (let N = at k d live M in N.seen.nodes j) ≡ Some n →
      ((j ≡ k) × (n.live ≡ live)) ⊎ ((j ≡ k → ⊥) × (M.seen.nodes j ≡ Some n))
  node_at k d live M j n is = by (j == k) refl is
    where
      by : (b : Bool) → (j == k) ≡ b → cond b (Some (record { number = k; disk = d; live = live })) (M.seen.nodes j) ≡ Some n →
          ((j ≡ k) × (n.live ≡ live)) ⊎ ((j ≡ k → ⊥) × (M.seen.nodes j ≡ Some n))
      by true same is = inl (eqb-true j k same, sym (ap (λ (z : Node). z.live) (some_is is)))
      by false apart is = inr ((λ same. never (ap (λ z. z == k) same ∙ same_number k) apart), is)

  later_at : (k : ℕ) (d : Disk) (live : Option Parts) (M : Moment) → Later M (at k d live M)
  later_at k d live M =
      record { more = []; lines = sym (append-nil M.seen.lines); askings = refl; sent = λ p i. i; full = λ f. f }

  back_at : (k : ℕ) (d : Disk) (live : Option Parts) (M : Moment) → Later (at k d live M) M
  back_at k d live M =
      record { more = []; lines = sym (append-nil M.seen.lines); askings = refl; sent = λ p i. i; full = λ f. f }

  -- the node is put, with what its server keeps
  pub put_at : (k : ℕ) (d : Disk) (live : Option Parts) (t : Parts) (M : Moment) → Carried k t M →
      ((v : Parts) → live ≡ Some v → AreKeptSo S M k (let s = v.server in s.kept)) → AnswersAreMade S (at k d live M)
  put_at k d live t M h own = record {
    sent = λ p a r there is. to_later ⊥ ⊥ M (at k d live M) p.from p.to a r (λ l. l) (later_at k d live M) (h.sent p a r there is);
    kept = λ j n u is up_it. kept_later M (at k d live M) j u.server.kept (later_at k d live M) (⊎_elim
        (λ mine. subst (λ i. AreKeptSo S M i u.server.kept) (sym mine.0) (own u (sym mine.1 ∙ up_it)))
        (λ other. h.others j n u other.0 other.1 up_it) (node_at k d live M j n is));
    asked = before_later M (at k d live M) (later_at k d live M) h.asked;
  }

  -- what holds with the node put holds beside it
  pub carried_of : (k : ℕ) (d : Disk) (live : Option Parts) (t : Parts) (M : Moment) → AnswersAreMade S (at k d live M) →
      AreKeptSo S (at k d live M) k (let s = t.server in s.kept) → Carried k t M
  carried_of k d live t M h own = record {
    sent = λ p a r there is. to_later ⊥ ⊥ (at k d live M) M p.from p.to a r (λ l. l) (back_at k d live M) (h.sent p a r there is);
    others = λ j n u apart is live_it. kept_later (at k d live M) M j u.server.kept (back_at k d live M)
        (h.kept j n u ((λ i. cond (other_number j k apart i) (Some (record { number = k; disk = d; live = live })) (M.seen.nodes j)) ∙ is)
        live_it);
    own = kept_later (at k d live M) M k t.server.kept (back_at k d live M) own;
    asked = before_later (at k d live M) M (back_at k d live M) h.asked;
  }

  -- a node that is up
  pub carried_up : (k : ℕ) (d : Disk) (t : Parts) (M : Moment) → AnswersAreMade S (up k d t M) → Carried k t M
  carried_up k d t M h = carried_of k d (Some t) t M h
      (h.kept k (record { number = k; disk = d; live = Some t }) t (λ i. cond (same_number k i)
      (Some (record { number = k; disk = d; live = Some t })) (M.seen.nodes k)) refl)

  -- the node stops
  pub stop_made : (k : ℕ) (d : Disk) (t : Parts) (M : Moment) → Carried k t M → AnswersAreMade S (halted k d M)
  stop_made k d t M h =
      put_at k d None t (said (body.Halted k ∷ []) M) (carried_said k t (body.Halted k ∷ []) M h) (λ v is. absurd (none_is is))

  -- ---- a node's effects

  pub mute_walk : (k : ℕ) (t : Parts) (outs rest : List Effect) (end : Disk → Moment → Type 0) (d : Disk) (M : Moment) → AreMute outs →
      Carried k t M → ((c : Disk) (N : Moment) → Carried k t N → WalksWith (AnswersAreMade S) k rest end c N)
      → WalksWith (AnswersAreMade S) k (outs ++ rest) end d M
  mute_walk k t [] rest end d M mute h go = go d M h
  mute_walk k t (Do w ∷ es) rest end d M mute h go =
      ((λ how. stop_made k (stopped how w d) t M h), mute_walk k t es rest end (worked w d) M mute.1 h go)
  mute_walk k t (Say b ∷ es) rest end d M mute h go =
      mute_walk k t es rest end d (said (b ∷ []) M) mute.1 (carried_said k t (b ∷ []) M h) go
  mute_walk k t (Send to m ∷ es) rest end d M mute h go =
      mute_walk k t es rest end d (sent (post k to m) M) mute.1 (carried_mute k t (post k to m) M mute.0 h) go

  pub silent_walk : (k : ℕ) (t : Parts) (outs rest : List Effect) (end : Disk → Moment → Type 0) (d : Disk) (M : Moment) → AreSilent outs →
      Carried k t M → ((c : Disk) → Carried k t (behind_outs outs M) → WalksWith (AnswersAreMade S) k rest end c (behind_outs outs M))
      → WalksWith (AnswersAreMade S) k (outs ++ rest) end d M
  silent_walk k t [] rest end d M silent h go = go d h
  silent_walk k t (Do w ∷ es) rest end d M silent h go =
      ((λ how. stop_made k (stopped how w d) t M h), silent_walk k t es rest end (worked w d) M silent.1 h go)
  silent_walk k t (Say b ∷ es) rest end d M silent h go =
      silent_walk k t es rest end d (said (b ∷ []) M) silent.1 (carried_said k t (b ∷ []) M h) go
  silent_walk k t (Send to m ∷ es) rest end d M silent h go = absurd silent.0

  -- ---- an answer is sent

  module _ (k : ℕ) (t : Parts) (from : ℕ) (h : Head) (a : Ask) (r : Reply) (M : Moment) (request : Post)
      (posted_it : In request M.seen.sent) (asking : asks request.message ≡ Some (h, a)) (to_it : request.to ≡ k)
      (from_it : request.from ≡ from) (all : Carried k t M) where
    abbrev it : Answer
    it = record { from = k; to = from; head = h; ask = a; reply = r }

    abbrev p : Post
    p = post k from (response (asked_by h) r)

    -- it was made before, if to a node that is to hear it, or it says what is so now
    abbrev pub MayMake : Type 0
    MayMake = IsMade S (fits M ≡ false) M.past.askings M.seen.lines it ⊎ S it M.seen.lines

    made_self : from ≡ k → MayMake → (lost : Type 0) → IsMade S lost M.past.askings M.seen.lines it
    made_self same (inl m) lost = record {
      before = m.before;
      after = m.after;
      are = m.are;
      behind = m.behind;
      framed = inl (sym same);
      so = m.so;
    }
    made_self same (inr so) lost = record {
      before = M.seen.lines;
      after = [];
      are = sym (append-nil M.seen.lines);
      behind = λ q i act low. all.asked q i;
      framed = inl (sym same);
      so = so;
    }

    abbrev line : List Line
    line = numbered M.past.number (body.Sent (M.past.frames + 1) k from (frame_kind (response (asked_by h) r)) ∷ [])

    made_framed : fits M ≡ true → MayMake → (lost : Type 0) → IsMade S lost M.past.askings (M.seen.lines ++ line) it
    made_framed fit (inl m) lost =
        made_more (fits M ≡ false) lost M.past.askings M.seen.lines line it (λ full. never fit full) m
    made_framed fit (inr so) lost = record {
      before = M.seen.lines;
      after = line;
      are = refl;
      behind = λ q i act low. all.asked q i;
      framed = inr (inl (M.past.frames + 1, refl));
      so = so;
    }

    made_lost : fits M ≡ false → MayMake → IsMade S (fits M ≡ false) M.past.askings M.seen.lines it
    made_lost full (inl m) = m
    made_lost full (inr so) = record {
      before = M.seen.lines;
      after = [];
      are = sym (append-nil M.seen.lines);
      behind = λ q i act low. all.asked q i;
      framed = inr (inr full);
      so = so;
    }

    -- with it among what was sent
    with_it : (N : Moment) → Later M N → N.seen.sent ≡ p ∷ M.seen.sent → ((j : ℕ) → N.seen.nodes j ≡ M.seen.nodes j) →
        IsAnswered S ⊥ N it → Carried k t N
    with_it N later sent nodes its = record {
      sent = λ q b s there is. ⊎_elim
          (λ same. mine q b s same (ap (λ (z : Post). answers z.message) same ∙ is))
          (λ old. to_later ⊥ ⊥ M N q.from q.to b s (λ l. l) later (all.sent q b s old is))
          (subst (λ qs. In q qs) sent there);
      others = λ j n u apart is live. kept_later M N j u.server.kept later (all.others j n u apart (sym (nodes j) ∙ is) live);
      own = kept_later M N k t.server.kept later all.own;
      asked = before_later M N later all.asked;
    }
      where
        mine : (q : Post) (b : Asked) (s : Reply) → p ≡ q → answers (response (asked_by h) r) ≡ Some (b, s) →
            AnswersTo S ⊥ N q.from q.to b s
        mine q b s same is =
            let both = some_is (sym (reads_back (asked_by h) r) ∙ is) in
            let z : AnswersTo S ⊥ N k from (asked_by h) r = (h, a, refl, its) in
            subst (λ (x : Post). AnswersTo S ⊥ N x.from x.to b s) same
            (subst (λ (y : Asked × Reply). AnswersTo S ⊥ N k from y.0 y.1) both z)

    -- what holds once it was sent: of all answers, and of it, should it be kept
    abbrev pub Put : Moment → Type 0
    Put N = Carried k t N × IsAnswered S (fits N ≡ false) N it × Later M N

    answer_of : (lost : Type 0) (N : Moment) → Within M.seen.sent N.seen.sent → IsMade S lost N.past.askings N.seen.lines it →
        IsAnswered S lost N it
    answer_of lost N within m =
        record { request = request; posted = within request posted_it; asking = asking; to = to_it; from = from_it; made = m }

    pub put_answer : MayMake → Put (sent (post k from (response (asked_by h) r)) M)
    put_answer may = by (from == k) refl (fits M) refl
      where
        by : (self : Bool) → (from == k) ≡ self → (fit : Bool) → fits M ≡ fit → Put (if self then posted p M else framed_if fit p M)
        by true same fit is =
            let N : Moment = posted p M in
            let here : from ≡ k = eqb-true from k same in (
              with_it N (later_posted p M) refl (λ j. refl) (answer_of ⊥ N (λ q i. inr i) (made_self here may ⊥)),
              answer_of (fits N ≡ false) N (λ q i. inr i) (made_self here may (fits N ≡ false)),
              later_posted p M,
            )
        by false apart true is =
            let N : Moment = framed_if true p M in (
              with_it N (later_framed p M is) refl (λ j. refl) (answer_of ⊥ N (λ q i. inr i) (made_framed is may ⊥)),
              answer_of (fits N ≡ false) N (λ q i. inr i) (made_framed is may (fits N ≡ false)),
              later_framed p M is,
            )
        by false apart false is = (
          all,
          answer_of (fits M ≡ false) M (λ q i. i) (made_lost is may),
          record { more = []; lines = sym (append-nil M.seen.lines); askings = refl; sent = λ q i. i; full = λ f. f },
        )
