-- What coordinators wait for stays tied to what was asked and answered: along lines, as a coordinator goes on, and as an action is asked.
use Rattle.arj_law_parts.proofs.Words
use Words.{⊎_elim, ◌≡◌, ◌≢◌, ◌⊎◌, ◌≤◌, ◌∙◌, ◌==◌, ◌+◌, ◌++◌, ℕ, Bool, true, false, cond, if◌then◌else◌, List, [], ◌∷◌, length, filter}
use Words.{Option, Some, None, refl, sym, ap}
use Words.{subst, arith, AllByRecursion, bytes_eq, bytes_eq-Decides, length-append, Body, Label, Line, Uid, name, Doing, doing_of, Disk}
use Words.{Do, Effect}
use Words.{Say, Send, stopped, worked, Parts, Node, numbered, CallEnd, Goal, Steps, Answered, Included, Conflict, Changed, Lost, Run}
use Words.{Calling, Idle, Now, end_line, Post}
use Words.{Committing, frame_kind, uids_of}
use Words.body
use Words.calls
use Rattle.arj_law_lock_view.proofs.Terms.{act_in, acts, acts_after, same_number}
use Rattle.arj_law_runs.proofs.journal.Owners.{acts_more}
use Rattle.arj_law_parts.proofs.moves.Flat.{post}
use Rattle.arj_law_parts.specs.moves.Moments.{Asking, Moment, at, fits, framed_if, halted, posted, said, sent, up}
use Rattle.arj_law_parts.specs.moves.With.{UpWith, WalksWith}
use Rattle.arj_model.specs.Actions.{Act, acts_from}
use Rattle.arj_model.specs.Refusals.{answers_to, asks_by, is_answer_to, last_asked}
use Rattle.arj_law_lock_view.specs.asking.Asked.{AskedAreTied, IsTied, IsTiedAt, accepted_of, asks_goal, count_answers, count_asks}
use Rattle.arj_law_lock_view.specs.asking.Turns.{AreDumb, AreGiveups, CameFrom, IsLike, IsOneCall, calling, is_giveup, is_reply}

some_is : {A : Type 0} {a b : A} → Some a ≡ Some b → a ≡ b
some_is {A} {a} {b} is = let k : ◌≡◌ {A = Option A} (Some a) (Some b) = is in cc

none_is : {A : Type 0} {x : A} → None ≡ Some x → ⊥
none_is {A} {x} is = let no_way : ◌≡◌ {A = Option A} None (Some x) = is in cc

never : {A : Type 0} {b : Bool} → b ≡ true → b ≡ false → A
never holds fails = let no_way : true ≡ false = sym holds ∙ fails in absurd (cc no_way)

-- ---- lines, and those that answer

filter_on : {A : Type 0} (p : A → Bool) (xs ys : List A) → filter p (xs ++ ys) ≡ filter p xs ++ filter p ys
filter_on p [] ys = refl
filter_on p (x ∷ xs) ys = by (p x) (filter_on p xs ys)
  where
    by : (b : Bool) → filter p (xs ++ ys) ≡ filter p xs ++ filter p ys →
        cond b (x ∷ filter p (xs ++ ys)) (filter p (xs ++ ys)) ≡ cond b (x ∷ filter p xs) (filter p xs) ++ filter p ys
    by true ih = ap (λ zs. x ∷ zs) ih
    by false ih = ih

pub dumb_line : (b : Body) → is_reply b ≡ false → (l : List ℕ) → is_answer_to l b ≡ false
dumb_line (body.Ok m x o a) is l = absurd (cc is)
dumb_line (body.Includes m x n) is l = absurd (cc is)
dumb_line (body.Conflict m u h n) is l = absurd (cc is)
dumb_line (body.Lost m n) is l = absurd (cc is)
dumb_line (body.Changed m n d) is l = absurd (cc is)
dumb_line b is l = refl

pub giveup_dumb : (b : Body) → is_giveup b ≡ true → is_reply b ≡ false
giveup_dumb (body.GaveUp l n) is = refl
giveup_dumb b is = absurd (cc is)

-- the line that ends a call answers to its label
pub reply_line : (x : ℕ) (g : Goal) (e : CallEnd) (m : Label) (l : List ℕ) → is_answer_to l (end_line x g e m) ≡ bytes_eq (name m) l
reply_line x (Run o) (Answered a) m l = refl
reply_line x (calls.Include s) (Answered a) m l = refl
reply_line x g (Included s) m l = refl
reply_line x g (Conflict h k n) m l = refl
reply_line x g (Changed n w) m l = refl
reply_line x g (Lost n b) m l = refl

abbrev pub NoReplies : List Body → Type 0
NoReplies bs = AllByRecursion (λ (b : Body). is_reply b ≡ false) bs

none_more : (e : ℕ) (bs : List Body) (l : List ℕ) → NoReplies bs → answers_to (numbered e bs) l ≡ []
none_more e [] l all = refl
none_more e (b ∷ bs) l all = (λ i. cond (dumb_line b all.0 l i) (record { event = e; body = b } ∷ answers_to (numbered e bs) l)
    (answers_to (numbered e bs) l)) ∙ none_more e bs l all.1

nothing_more : {A : Type 0} (xs : List A) → xs ++ [] ≡ xs
nothing_more [] = refl
nothing_more (x ∷ xs) = ap (λ ys. x ∷ ys) (nothing_more xs)

pub answers_stay : (ls : List Line) (e : ℕ) (bs : List Body) (l : List ℕ) → NoReplies bs →
    answers_to (ls ++ numbered e bs) l ≡ answers_to ls l
answers_stay ls e bs l all = filter_on (λ (line : Line). is_answer_to l line.body) ls (numbered e bs)
    ∙ ap (λ xs. answers_to ls l ++ xs) (none_more e bs l all) ∙ nothing_more (answers_to ls l)

pub one_more : (ls : List Line) (e : ℕ) (b : Body) (l : List ℕ) → is_answer_to l b ≡ true →
    count_answers (ls ++ numbered e (b ∷ [])) l ≡ count_answers ls l + 1
one_more ls e b l is = ap length (filter_on (λ (line : Line). is_answer_to l line.body) ls (numbered e (b ∷ []))
    ∙ (λ i. answers_to ls l ++ cond (is i) (record { event = e; body = b } ∷ []) [])) ∙ length-append (answers_to ls l)
    (record { event = e; body = b } ∷ [])

other_line : (ls : List Line) (e : ℕ) (b : Body) (l : List ℕ) → is_answer_to l b ≡ false →
    answers_to (ls ++ numbered e (b ∷ [])) l ≡ answers_to ls l
other_line ls e b l is = filter_on (λ (line : Line). is_answer_to l line.body) ls (numbered e (b ∷ []))
    ∙ (λ i. answers_to ls l ++ cond (is i) (record { event = e; body = b } ∷ []) []) ∙ nothing_more (answers_to ls l)

-- who isn't there with more lines wasn't before
none_before : (ls : List Line) (xs : List Act) (l : List ℕ) → act_in (acts_from xs ls) l ≡ None → act_in xs l ≡ None
none_before [] xs l is = is
none_before (line ∷ ls) xs l is = one line.body (none_before ls (acts_after xs line.body) l is)
  where
    hidden : (a : Act) → act_in (a ∷ xs) l ≡ None → act_in xs l ≡ None
    hidden a none = by (bytes_eq a.label l) none
      where
        by : (b : Bool) → cond b (Some a) (act_in xs l) ≡ None → act_in xs l ≡ None
        by true e = absurd (none_is (sym e))
        by false e = e

    one : (b : Body) → act_in (acts_after xs b) l ≡ None → act_in xs l ≡ None
    one (body.Began m k u p) none = hidden _ none
    one b none = none

pub none_first : (ls ms : List Line) (l : List ℕ) → act_in (acts (ls ++ ms)) l ≡ None → act_in (acts ls) l ≡ None
none_first ls ms l is = none_before ms (acts ls) l (ap (λ xs. act_in xs l) (sym (acts_more [] ls ms)) ∙ is)

-- ---- one action

-- answers to its label are the same
pub tied_same : (A : List Asking) (ls ms : List Line) (u : Uid) (d : Doing) (o : Option Steps) →
    answers_to ms (name d.label) ≡ answers_to ls (name d.label)
    → IsTied A ls u d o → IsTied A ms u d o
tied_same A ls ms u d None same h = ap length same ∙ h
tied_same A ls ms u d (Some s) same h = (h.0 ∙ ap (λ xs. length xs + 1) (sym same), h.1)

-- it goes on to wait for the same
pub like_tied : (A : List Asking) (ls : List Line) (u : Uid) (d x : Doing) → IsLike d x → d.req ≤ x.req → IsTiedAt A ls u d →
    IsTiedAt A ls u x
like_tied A ls u d x like low h = by d.now refl h
  where
    none : calling x.now ≡ None → IsTied A ls u d None → IsTiedAt A ls u x
    none is t = subst (IsTied A ls u x) (sym is)
        (ap (λ (m : Label). count_answers ls (name m)) like.label ∙ t ∙ ap (λ (m : Label). count_asks A (name m)) (sym like.label))

    some : (s t : Steps) → x.now ≡ Calling t → IsOneCall s t → IsTied A ls u d (Some s) → IsTiedAt A ls u x
    some s t is one q = subst (IsTied A ls u x) (sym (ap calling is)) (
      ap (λ (m : Label). count_asks A (name m)) like.label ∙ q.0 ∙ ap (λ (m : Label). count_answers ls (name m) + 1) (sym like.label),
      (let a = q.1 in record {
        asking = a.asking;
        there = a.there;
        act = a.act;
        first = lower a.first;
        last = ap (λ (m : Label). last_asked (asks_by (accepted_of A) (name m))) like.label ∙ a.last;
        goal = (
          a.goal.0,
          a.goal.1 ∙ ap (λ (m : Label). name m) (sym like.label),
          a.goal.2 ∙
              (λ i. asks_goal a.goal.0 (sym one.object i) (sym one.goal i)),
        );
        path = a.path ∙ ap (λ p. uids_of p) (sym one.path);
      }),
    )
      where
        lower : {m : ℕ} → m ≤ d.req → m ≤ x.req
        lower le = omega (arith, le, low)

    by : (n : Now) → d.now ≡ n → IsTied A ls u d (calling d.now) → IsTiedAt A ls u x
    by Idle is t = none (like.idle (ap calling is)) (subst (IsTied A ls u d) (ap calling is) t)
    by (Calling s) is t = let b = like.busy s is in some s b.0 b.1 b.2 (subst (IsTied A ls u d) (ap calling is) t)
    by (Committing m) is t = none (like.idle (ap calling is)) (subst (IsTied A ls u d) (ap calling is) t)

-- ---- nodes but one

-- the actions of a coordinator are tied
abbrev pub Own : Parts → Moment → Type 0
Own t N = (u : Uid) (d : Doing) → doing_of u t.coord ≡ Some d → IsTiedAt N.past.askings N.seen.lines u d

pub record OffTied (k : ℕ) (N : Moment) : Type 0 where
  pub others : (j : ℕ) (n : Node) (t : Parts) → (j == k) ≡ false → N.seen.nodes j ≡ Some n → n.live ≡ Some t → Own t N
  pub new : (l : List ℕ) → act_in (acts N.seen.lines) l ≡ None →
      (asks_by (accepted_of N.past.askings) l ≡ []) × (answers_to N.seen.lines l ≡ [])

module _ (k : ℕ) where
  pub put_tied : (d : Disk) (live : Option Parts) (N : Moment) → OffTied k N → ((t : Parts) → live ≡ Some t → Own t N) →
      AskedAreTied (at k d live N)
  put_tied d live N off own = record { tied = λ j n t u x there. by j n t u x (j == k) refl there; new = off.new }
    where
      by : (j : ℕ) (n : Node) (t : Parts) (u : Uid) (x : Doing) (b : Bool) → (j == k) ≡ b →
          (if b then Some (record { number = k; disk = d; live = live }) else N.seen.nodes j) ≡ Some n → n.live ≡ Some t →
          doing_of u t.coord ≡ Some x → IsTiedAt N.past.askings N.seen.lines u x
      by j n t u x true is there up found = own t (ap (λ (z : Node). z.live) (some_is there) ∙ up) u x found
      by j n t u x false is there up found = off.others j n t is there up u x found

  pub off_of : (d : Disk) (live : Option Parts) (M : Moment) → AskedAreTied (at k d live M) → OffTied k M
  off_of d live M h = record {
    others = λ j n t other there up u x found. h.tied j n t u x
        ((λ i. if other i then Some (record { number = k; disk = d; live = live }) else M.seen.nodes j) ∙ there) up found;
    new = h.new;
  }

  pub own_of : (d : Disk) (t : Parts) (M : Moment) → AskedAreTied (up k d t M) → Own t M
  own_of d t M h u x found = h.tied k (record { number = k; disk = d; live = Some t }) t u x
      (λ i. if same_number k i then Some (record { number = k; disk = d; live = Some t }) else M.seen.nodes k) refl found

  pub off_said : (bs : List Body) (N : Moment) → NoReplies bs → OffTied k N → OffTied k (said bs N)
  off_said bs N all h = record {
    others = λ j n t other there up u x found. tied_same N.past.askings N.seen.lines (N.seen.lines ++ numbered N.past.number bs) u x
        (calling x.now) (answers_stay N.seen.lines N.past.number bs (name x.label) all) (h.others j n t other there up u x found);
    new = λ l none. let q = h.new l (none_first N.seen.lines (numbered N.past.number bs) l none) in
        (q.0, answers_stay N.seen.lines N.past.number bs l all ∙ q.1);
  }

  pub own_said : (t : Parts) (bs : List Body) (N : Moment) → NoReplies bs → Own t N → Own t (said bs N)
  own_said t bs N all h u x found = tied_same N.past.askings N.seen.lines (N.seen.lines ++ numbered N.past.number bs) u x (calling x.now)
      (answers_stay N.seen.lines N.past.number bs (name x.label) all) (h u x found)

  off_sent : (p : Post) (N : Moment) → OffTied k N → OffTied k (sent p N)
  off_sent p N h = by (p.to == p.from) (fits N)
    where
      lined : OffTied k (framed_if true p N)
      lined = let o = off_said (body.Sent (N.past.frames + 1) p.from p.to (frame_kind p.message) ∷ []) N (refl, tt) h in
          record { others = o.others; new = o.new }

      by : (self fit : Bool) → OffTied k (if self then posted p N else framed_if fit p N)
      by true fit = record { others = h.others; new = h.new }
      by false true = lined
      by false false = h

  own_sent : (t : Parts) (p : Post) (N : Moment) → Own t N → Own t (sent p N)
  own_sent t p N h = by (p.to == p.from) (fits N)
    where
      by : (self fit : Bool) → Own t (if self then posted p N else framed_if fit p N)
      by true fit = h
      by false true = own_said t (body.Sent (N.past.frames + 1) p.from p.to (frame_kind p.message) ∷ []) N (refl, tt) h
      by false false = h

  pub stop_tied : (d : Disk) (N : Moment) → OffTied k N → AskedAreTied (halted k d N)
  stop_tied d N off = put_tied d None (said (body.Halted k ∷ []) N) (off_said (body.Halted k ∷ []) N (refl, tt) off)
      (λ t is. absurd (none_is is))

  -- effects that answer nothing
  pub dumb_walk : (v : Parts) (outs : List Effect) (d : Disk) (N : Moment) → AreDumb outs → OffTied k N → Own v N →
      WalksWith AskedAreTied k outs (UpWith AskedAreTied k v) d N
  dumb_walk v [] d N all off own = put_tied d (Some v) N off (λ t is. subst (λ (z : Parts). Own z N) (some_is is) own)
  dumb_walk v (Do w ∷ es) d N all off own = ((λ how. stop_tied (stopped how w d) N off), dumb_walk v es (worked w d) N all.1 off own)
  dumb_walk v (Say b ∷ es) d N all off own = dumb_walk v es d (said (b ∷ []) N) all.1 (off_said (b ∷ []) N (all.0, tt) off)
      (own_said v (b ∷ []) N (all.0, tt) own)
  dumb_walk v (Send to m ∷ es) d N all off own = dumb_walk v es d (sent (post k to m) N) all.1 (off_sent (post k to m) N off)
      (own_sent v (post k to m) N own)

  -- ---- one call is answered

  -- the action that is answered, and that others have other names
  pub record Apart (t : Parts) (u : Uid) (d : Doing) (N : Moment) : Type 0 where
    pub off : OffTied k N
    pub own : Own t N
    pub others : (j : ℕ) (n : Node) (s : Parts) (w : Uid) (x : Doing) → (j == k) ≡ false → N.seen.nodes j ≡ Some n → n.live ≡ Some s →
        doing_of w s.coord ≡ Some x → bytes_eq (name d.label) (name x.label) ≡ false
    pub begun : (l : List ℕ) → act_in (acts N.seen.lines) l ≡ None → bytes_eq (name d.label) l ≡ false

  apart_said : (t : Parts) (u : Uid) (d : Doing) (b : Body) (N : Moment) → is_reply b ≡ false → Apart t u d N →
      Apart t u d (said (b ∷ []) N)
  apart_said t u d b N is h = record {
    off = off_said (b ∷ []) N (is, tt) h.off;
    own = own_said t (b ∷ []) N (is, tt) h.own;
    others = h.others;
    begun = λ l none. h.begun l (none_first N.seen.lines (numbered N.past.number (b ∷ [])) l none);
  }

  module _ (t v : Parts) (u : Uid) (d : Doing) (s : Steps) (g : CallEnd) (found : doing_of u t.coord ≡ Some d) (is : d.now ≡ Calling s)
      (same : (w : Uid) (x : Doing) → doing_of w t.coord ≡ Some x → bytes_eq (name d.label) (name x.label) ≡ true → w ≡ u)
      (low : (w : Uid) (x y : Doing) → doing_of w t.coord ≡ Some x → doing_of w v.coord ≡ Some y → x.req ≤ y.req)
      (turn : (w : Uid) (x : Doing) → doing_of w v.coord ≡ Some x →
      ((w ≡ u) × (x.label ≡ d.label) × (calling x.now ≡ None)) ⊎ ((w ≢ u) × CameFrom t.coord w x)) where
    abbrev line : Body
    line = end_line s.x s.goal g d.label

    ended : (N : Moment) → Apart t u d N → OffTied k (said (line ∷ []) N) × Own v (said (line ∷ []) N)
    ended N h = (
      record {
        others = λ j n z other there up w x at. tied_same N.past.askings N.seen.lines
            (N.seen.lines ++ numbered N.past.number (line ∷ [])) w x
            (calling x.now) (elsewhere (name x.label) (h.others j n z w x other there up at)) (h.off.others j n z other there up w x at);
        new = λ l none. let first = none_first N.seen.lines (numbered N.past.number (line ∷ [])) l none in
            let q = h.off.new l first in (q.0, elsewhere l (h.begun l first) ∙ q.1);
      },
      λ w x at. ⊎_elim {C = IsTiedAt N.past.askings (N.seen.lines ++ numbered N.past.number (line ∷ [])) w x} (itself w x)
          (λ q. came w x at q.0 q.1) (turn w x at),
    )
      where
        elsewhere : (l : List ℕ) → bytes_eq (name d.label) l ≡ false →
            answers_to (N.seen.lines ++ numbered N.past.number (line ∷ [])) l ≡ answers_to N.seen.lines l
        elsewhere l other = other_line N.seen.lines N.past.number line l (reply_line s.x s.goal g d.label l ∙ other)

        itself : (w : Uid) (x : Doing) → (w ≡ u) × (x.label ≡ d.label) × (calling x.now ≡ None) →
            IsTiedAt N.past.askings (N.seen.lines ++ numbered N.past.number (line ∷ [])) w x
        itself w x q =
            let l : List ℕ = name d.label in
            let before : IsTied N.past.askings N.seen.lines u d (Some s) = subst (IsTied N.past.askings N.seen.lines u d) (ap calling is)
            (h.own u d found) in
            let more : count_answers (N.seen.lines ++ numbered N.past.number (line ∷ [])) l ≡ count_answers N.seen.lines l + 1 =
            one_more N.seen.lines N.past.number line l (reply_line s.x s.goal g d.label l ∙ (bytes_eq-Decides l l).1 refl) in
            subst (IsTied N.past.askings (N.seen.lines ++ numbered N.past.number (line ∷ [])) w x) (sym q.2)
            (subst (λ (m : Label). count_answers (N.seen.lines ++ numbered N.past.number (line ∷ []))
            (name m) ≡ count_asks N.past.askings (name m))
            (sym q.1) (more ∙ sym before.0))

        came : (w : Uid) (x : Doing) → doing_of w v.coord ≡ Some x → w ≢ u → CameFrom t.coord w x →
            IsTiedAt N.past.askings (N.seen.lines ++ numbered N.past.number (line ∷ [])) w x
        came w x at other from =
            let old = h.own w from.0 from.1 in
            like_tied N.past.askings (N.seen.lines ++ numbered N.past.number (line ∷ [])) w from.0 x from.2 (low w from.0 x from.1 at)
            (tied_same N.past.askings N.seen.lines (N.seen.lines ++ numbered N.past.number (line ∷ [])) w from.0 (calling (let z =
            from.0 in z.now))
            (elsewhere (name (let z = from.0 in z.label)) (apart (bytes_eq (name d.label) (name (let z = from.0 in z.label))) refl)) old)
          where
            apart : (b : Bool) → bytes_eq (name d.label) (name (let z = from.0 in z.label)) ≡ b → b ≡ false
            apart false e = refl
            apart true e = absurd (other (same w from.0 from.1 e))

    pub ends_walk : (front : List Effect) (c : Disk) (N : Moment) → AreGiveups front → Apart t u d N →
        WalksWith AskedAreTied k (front ++ Say line ∷ []) (UpWith AskedAreTied k v) c N
    ends_walk [] c N lined h = let q = ended N h in put_tied c (Some v) (said (line ∷ []) N) q.0
        (λ z up. subst (λ (y : Parts). Own y (said (line ∷ []) N)) (some_is up) q.1)
    ends_walk (Say b ∷ es) c N lined h = ends_walk es c (said (b ∷ []) N) lined.1 (apart_said t u d b N (giveup_dumb b lined.0) h)
    ends_walk (Send to m ∷ es) c N lined h = absurd lined.0
    ends_walk (Do w ∷ es) c N lined h = absurd lined.0
