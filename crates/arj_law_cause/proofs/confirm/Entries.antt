-- An entry that the journal tells of leaves room for a next version, and who wrote it is decided by the journal, or had ended before the
-- run began.
use Rattle.arj_law.proofs.{JoinedSaid.tops_decided, Moves.all_arrange}
use Rattle.arj_law.proofs.JoinedSaid as said
use Rattle.arj_law_parts.proofs.Words
use Words.{◌≡◌, ◌≤◌, ◌<◌, ◌⊎◌, ◌∙◌, ◌+◌, ◌++◌, ◌==◌, ◌&&◌, ◌||◌, not, ℕ, suc, Bool, true, false, cond, List, [], ◌∷◌, length, Option}
use Words.{Some, None}
use Words.{refl, sym, ap, subst, inl, inr, arith, nat_tests, nat_lt, AllByRecursion, and_parts, cons_option, option_map, Body, Line, Uid}
use Words.{Header, ObjectState, name, is_on, is_old, next_version, state_eq, uid_eq, uid_is, most_labels, again_all, begin_action}
use Words.{Disk, Do, Effect, Say, Send, Parts, worked, acts as does, parent_of, parts_in, restart_outs, tick_outs, with_coord, is_serial}
use Words.{⊤, Seen, Start, IsFormed, bytes_eq, uid_same}
use Words.body
use Rattle.arj_base.specs.declared.limits.TheConstants.{LAST_VERSION}
use Rattle.arj_law_parts.proofs.Terms.{KeepsAsked, Up, Walks}
use Rattle.arj_law_parts.specs.moves.Keeps.{IsAtStarts, KeepsFrom}
use Rattle.arj_law_parts.specs.moves.Seen.{given, posted, said as with_lines}
use Rattle.arj_law_runs.proofs.journal.{Books.decided_later, Books.later_from, Books.book_more, Models.its_acts, Models.its_decision}
use Rattle.arj_law_runs.specs.journal.Book.{Book, book, book_from, is_decided, new_book, turned, with_named}
use Rattle.arj_law_runs.specs.journal.Right.{AreRight, IsOpen, Right}
use Rattle.arj_model.specs.Actions.{Act, Begun, act_in, acts, acts_after, begun_of, numbered, put, read}
use Rattle.arj_model.specs.Calls.{Top, committing_of, committings, tops, top_of}
use Rattle.arj_model.specs.Last.{changer_from, changers, entry_from, listed_after, object_line, same_list, serial_tops, stores_of_line}
use Rattle.arj_model.specs.Last.{uid_of_id}
use Rattle.arj_model.specs.Actions.{committed, recovered, is_committed}
use Rattle.arj_model.specs.Serial.{arrange, insert, lex, serial_key}
use Rattle.arj_law_cause.specs.rows.Early.{HasFewActs}
use Rattle.arj_law_cause.proofs.rows.Holders.{one_passes}
use Rattle.arj_law_cause.proofs.spelled.Lists.{filter_map_shorter}

-- ---- how many tops there are

-- so many of these actions have one of these Uids
abbrev called_of : List Uid → List Act → ℕ
called_of us [] = 0
called_of us (a ∷ as_begun) = cond (is_on us a.uid) (suc (called_of us as_begun)) (called_of us as_begun)

no_more : (us : List Uid) (as_begun : List Act) → called_of us as_begun ≤ length as_begun
no_more us [] = omega arith
no_more us (a ∷ as_begun) = by (is_on us a.uid) (no_more us as_begun)
  where
    by : (b : Bool) → called_of us as_begun ≤ length as_begun →
        cond b (suc (called_of us as_begun)) (called_of us as_begun) ≤ suc (length as_begun)
    by true ih = omega (arith, ih)
    by false ih = omega (arith, ih)

one_more : (us : List Uid) (a : Act) (as_begun : List Act) → called_of us as_begun ≤ called_of us (a ∷ as_begun)
one_more us a as_begun = by (is_on us a.uid)
  where
    by : (b : Bool) → called_of us as_begun ≤ cond b (suc (called_of us as_begun)) (called_of us as_begun)
    by true = omega arith
    by false = omega arith

-- also as an action may begin
may_begin : (us : List Uid) (as_begun : List Act) (o : Option Begun) → called_of us as_begun ≤ called_of us (numbered as_begun o)
may_begin us as_begun None = omega arith
may_begin us as_begun (Some b) = one_more us
    (record { id = length as_begun; label = b.label; kind = b.kind; uid = b.uid; parent = b.parent }) as_begun

-- with one Uid more there are no fewer
as_many : (us : List Uid) (u : Uid) (as_begun : List Act) → called_of us as_begun ≤ called_of (u ∷ us) as_begun
as_many us u [] = omega arith
as_many us u (a ∷ as_begun) = by (uid_eq u a.uid) (is_on us a.uid) (as_many us u as_begun)
  where
    by : (x y : Bool) → called_of us as_begun ≤ called_of (u ∷ us) as_begun →
        cond y (suc (called_of us as_begun)) (called_of us as_begun)
        ≤ cond (x || y) (suc (called_of (u ∷ us) as_begun)) (called_of (u ∷ us) as_begun)
    by true true ih = omega (arith, ih)
    by true false ih = omega (arith, ih)
    by false true ih = omega (arith, ih)
    by false false ih = omega (arith, ih)

-- and with that of one of them, which wasn't there, there are more
called_more : (us : List Uid) (as_begun : List Act) (l : List ℕ) (a : Act) → act_in as_begun l ≡ Some a → is_on us a.uid ≡ false →
    suc (called_of us as_begun) ≤ called_of (a.uid ∷ us) as_begun
called_more us [] l a is off = absurd (cc is)
called_more us (b ∷ as_begun) l a is off =
    by (bytes_eq b.label l) is (λ more. called_more us as_begun l a more off)
  where
    here : (c : Act) → c ≡ a → suc (called_of us (c ∷ as_begun)) ≤ called_of (a.uid ∷ us) (c ∷ as_begun)
    here c same = more (is_on us c.uid) (ap (λ (z : Act). is_on us z.uid) same ∙ off) (uid_eq a.uid c.uid)
        (ap (λ (z : Act). uid_eq a.uid z.uid) same ∙ uid_same a.uid) (as_many us a.uid as_begun)
      where
        more : (y : Bool) → y ≡ false → (x : Bool) → x ≡ true → called_of us as_begun ≤ called_of (a.uid ∷ us) as_begun →
            suc (cond y (suc (called_of us as_begun)) (called_of us as_begun))
            ≤ cond (x || y) (suc (called_of (a.uid ∷ us) as_begun)) (called_of (a.uid ∷ us) as_begun)
        more true e x f ih = absurd (cc e)
        more false e true f ih = omega (arith, ih)
        more false e false f ih = absurd (cc f)

    behind : (y x : Bool) → suc (called_of us as_begun) ≤ called_of (a.uid ∷ us) as_begun →
        suc (cond y (suc (called_of us as_begun)) (called_of us as_begun))
        ≤ cond (x || y) (suc (called_of (a.uid ∷ us) as_begun)) (called_of (a.uid ∷ us) as_begun)
    behind true true ih = omega (arith, ih)
    behind true false ih = omega (arith, ih)
    behind false true ih = omega (arith, ih)
    behind false false ih = omega (arith, ih)

    by : (x : Bool) → cond x (Some b) (act_in as_begun l) ≡ Some a →
        (act_in as_begun l ≡ Some a → suc (called_of us as_begun) ≤ called_of (a.uid ∷ us) as_begun) →
        suc (called_of us (b ∷ as_begun)) ≤ called_of (a.uid ∷ us) (b ∷ as_begun)
    by true found ih = here b (let same : b ≡ a = cc found in same)
    by false found ih = behind (is_on us b.uid) (uid_eq a.uid b.uid) (ih found)

-- each call of a commit is of another action
calls_from : (B : Book) (n : ℕ) (ls : List Line) → AreRight B ls →
    called_of B.called B.acts + length (read committing_of B.acts n ls)
    ≤ called_of (let V = book_from B ls in V.called) (let V = book_from B ls in V.acts)
calls_from B n [] right = omega arith
calls_from B n (l ∷ ls) right = by l.body right.0 (called_of (let V = book_from (turned B l.body) ls in V.called)
    (let V = book_from (turned B l.body) ls in V.acts)) (calls_from (turned B l.body) (n + 1) ls right.1)
  where
    Rest : Body → ℕ
    Rest b = length (read committing_of (acts_after B.acts b) (n + 1) ls)

    by : (b : Body) → Right B b → (most : ℕ) →
        called_of (let V = turned B b in V.called) (let V = turned B b in V.acts)
        + length (read committing_of (let V = turned B b in V.acts) (n + 1) ls) ≤ most →
        called_of B.called B.acts + length (put n (committing_of B.acts b) (read committing_of (acts_after B.acts b) (n + 1) ls)) ≤ most
    by (body.Committing k) its most ih = sum (called_of B.called B.acts) (called_of (with_named B.acts k B.called) B.acts)
        (Rest (body.Committing k)) most grows ih
      where
        sum : (c d r m : ℕ) → suc c ≤ d → d + r ≤ m → c + suc r ≤ m
        sum c d r m one all = omega (arith, one, all)

        open_one : IsOpen B k its.0
        open_one = its.1

        grows : suc (called_of B.called B.acts) ≤ called_of (with_named B.acts k B.called) B.acts
        grows = subst (λ o. suc (called_of B.called B.acts) ≤ called_of (cons_option (option_map (λ (x : Act). x.uid) o) B.called) B.acts)
            (sym open_one.named) (called_more B.called B.acts (name k) its.0 open_one.named its.3)
    by (body.Began k kind u p) its most ih = sum (called_of B.called B.acts)
        (called_of B.called (acts_after B.acts (body.Began k kind u p))) (Rest (body.Began k kind u p)) most
        (may_begin B.called B.acts (begun_of (body.Began k kind u p))) ih
      where
        sum : (c d r m : ℕ) → c ≤ d → d + r ≤ m → c + r ≤ m
        sum c d r m one all = omega (arith, one, all)
    by (body.Committed k) its most ih = ih
    by (body.Aborted k c) its most ih = ih
    by (body.Ended k) its most ih = ih
    by (body.Recovered k u) its most ih = ih
    by (body.Ok k x o r) its most ih = ih
    by (body.Includes k x m) its most ih = ih
    by b its most ih = ih

-- no more tops are committed than actions began
few_tops : (lines : List Line) → AreRight new_book lines → length (tops lines) ≤ length (acts lines)
few_tops lines right = sum (length (tops lines)) (length (committings lines))
    (called_of (let B = book lines in B.called) (let B = book lines in B.acts)) (length (acts lines))
    (filter_map_shorter (top_of (committed lines) (recovered lines)) (committings lines)) (calls_from new_book 0 lines right)
    (subst (λ us. called_of (let B = book lines in B.called) us ≤ length (acts lines)) (sym (its_acts lines right))
    (no_more (let B = book lines in B.called) (acts lines)))
  where
    sum : (a b c d : ℕ) → a ≤ b → 0 + b ≤ c → c ≤ d → a ≤ d
    sum a b c d x y z = omega (arith, x, y, z)

-- ---- lists in order

length_insert : {A : Type 0} (less : A → A → Bool) (a : A) (xs : List A) → length (insert less a xs) ≡ suc (length xs)
length_insert less a [] = refl
length_insert {A} less a (x ∷ xs) = by (less x a) (length_insert less a xs)
  where
    by : (b : Bool) → length (insert less a xs) ≡ suc (length xs) →
        length (cond b (x ∷ insert less a xs) (a ∷ x ∷ xs)) ≡ suc (suc (length xs))
    by true ih = ap suc ih
    by false ih = refl

length_arrange : {A : Type 0} (less : A → A → Bool) (xs : List A) → length (arrange less xs) ≡ length xs
length_arrange less [] = refl
length_arrange less (x ∷ xs) = length_insert less x (arrange less xs) ∙ ap suc (length_arrange less xs)

few_changers : (lines : List Line) (x : ℕ) (first : List ℕ) (ts : List Top) → length (changers lines x first ts) ≤ length ts
few_changers lines x first [] = omega arith
few_changers lines x first (t ∷ ts) =
    by (same_list (listed_after lines x first t) first) (few_changers lines x first ts)
    (few_changers lines x (listed_after lines x first t) ts)
  where
    by : (b : Bool) → length (changers lines x first ts) ≤ length ts →
        length (changers lines x (listed_after lines x first t) ts) ≤ length ts →
        length (cond b (changers lines x first ts) (t ∷ changers lines x (listed_after lines x first t) ts)) ≤ suc (length ts)
    by true stays moved = omega (arith, stays)
    by false stays moved = omega (arith, moved)

all_changers : (P : Top → Type 0) (lines : List Line) (x : ℕ) (first : List ℕ) (ts : List Top) → AllByRecursion P ts →
    AllByRecursion P (changers lines x first ts)
all_changers P lines x first [] all = tt
all_changers P lines x first (t ∷ ts) all =
    by (same_list (listed_after lines x first t) first) (all_changers P lines x first ts all.1)
    (all_changers P lines x (listed_after lines x first t) ts all.1)
  where
    by : (b : Bool) → AllByRecursion P (changers lines x first ts) → AllByRecursion P (changers lines x (listed_after lines x first t) ts) →
        AllByRecursion P (cond b (changers lines x first ts) (t ∷ changers lines x (listed_after lines x first t) ts))
    by true stays moved = stays
    by false stays moved = (all.0, moved)

-- ---- an entry of the journal

-- so its version is below the last one there is
pub entry_below : (hd : Header) (st : Start) → IsFormed hd st → (lines : List Line) → AreRight new_book lines → HasFewActs lines → (x : ℕ) →
    (let e = entry_from hd st.marks lines x in e.version) < LAST_VERSION
entry_below hd st formed lines right few x = sum (let m = st.marks.entries x in m.version)
    (length (changers lines x (stores_of_line (object_line hd x)) (serial_tops lines))) (length (serial_tops lines)) (length (tops lines))
    (length (acts lines)) most_labels LAST_VERSION (few_changers lines x (stores_of_line (object_line hd x)) (serial_tops lines))
    (length_arrange (λ t u. lex (serial_key (tops lines) t.id) (serial_key (tops lines) u.id)) (tops lines)) (few_tops lines right) few
    (formed.brief x)
  where
    sum : (v c s t a m l : ℕ) → c ≤ s → s ≡ t → t ≤ a → a ≤ m → v + m < l → v + c < l
    sum v c s t a m l p q r z room = omega (arith, p, q, r, z, room)

-- a new state one version above another is not too old for it
pub next_not_old : (s held : ObjectState) → s.version ≡ next_version held.version → held.version < LAST_VERSION → is_old s held ≡ false
next_not_old s held is room =
    ap (λ v. nat_lt v held.version || ((v == held.version) && not (state_eq s held))) (is ∙ plain held.version room)
    ∙ (λ i. off held.version i || (other held.version i && not (state_eq s held)))
  where
    plain : (v : ℕ) → v < 18446744073709551615 → next_version v ≡ v + 1
    plain v low = grind (arith, low)

    off : (v : ℕ) → nat_lt (v + 1) v ≡ false
    off v = grind (arith, nat_tests)

    other : (v : ℕ) → (v + 1 == v) ≡ false
    other v = grind (arith, nat_tests)

-- who is decided by the journal is so by the book
by_book : (lines : List Line) → AreRight new_book lines → (u : Uid) → said.is_decided lines u ≡ true → is_decided (book lines) u ≡ true
by_book lines right u is =
    let w = one_passes (λ (a : Act). uid_eq a.uid u && is_committed (committed lines) (recovered lines) a) (acts lines) is in
    let p = and_parts (uid_eq w.0.uid u) (is_committed (committed lines) (recovered lines) w.0) w.2 in
    ap (is_decided (book lines)) (sym (uid_is w.0.uid u p.0)) ∙ sym (its_decision lines right w.0 w.1) ∙ p.1

-- the last of these, or the one before them
last_so : (P : Uid → Type 0) (as_begun : List Act) (u : Uid) (ts : List Top) →
    AllByRecursion (λ (t : Top). P (uid_of_id as_begun t.id)) ts →
    P u → P (changer_from as_begun u ts)
last_so P as_begun u [] all its = its
last_so P as_begun u (t ∷ ts) all its = last_so P as_begun (uid_of_id as_begun t.id) ts all.1 all.0

-- it was written by who had written it as the run began, or by one that is decided
pub entry_writer : (hd : Header) (st : Start) (lines : List Line) → AreRight new_book lines → (x : ℕ) →
    ((let e = entry_from hd st.marks lines x in e.writer) ≡ (let m = st.marks.entries x in m.writer))
    ⊎ (is_decided (book lines) (let e = entry_from hd st.marks lines x in e.writer) ≡ true)
entry_writer hd st lines right x =
    last_so (λ u. (u ≡ (let m = st.marks.entries x in m.writer)) ⊎ (is_decided (book lines) u ≡ true)) (acts lines)
    (let m = st.marks.entries x in m.writer) (changers lines x (stores_of_line (object_line hd x)) (serial_tops lines))
    (all_changers (λ t. Written t) lines x (stores_of_line (object_line hd x)) (serial_tops lines)
    (all_arrange (λ t. Written t) (λ t u. lex (serial_key (tops lines) t.id) (serial_key (tops lines) u.id)) (tops lines)
    (each (tops lines) (tops_decided lines)))) (inl refl)
  where
    Written : Top → Type 0
    Written t = (uid_of_id (acts lines) t.id ≡ (let m = st.marks.entries x in m.writer))
        ⊎ (is_decided (book lines) (uid_of_id (acts lines) t.id) ≡ true)

    each : (ts : List Top) → AllByRecursion (λ (t : Top). said.is_decided lines (uid_of_id (acts lines) t.id) ≡ true) ts →
        AllByRecursion Written ts
    each [] all = tt
    each (t ∷ ts) all = (inr (by_book lines right (uid_of_id (acts lines) t.id) all.0), each ts all.1)

-- and is decided by more lines too
pub decided_more : (before after : List Line) (u : Uid) → is_decided (book before) u ≡ true → is_decided (book (before ++ after)) u ≡ true
decided_more before after u is = subst (λ (B : Book). is_decided B u ≡ true) (sym (book_more new_book before after))
    (decided_later (book before) (book_from (book before) after) (later_from (book before) after) u is)

-- ---- where the run began

module _ (P : Start → Type 0) where
  abbrev Began : Seen → Type 0
  Began M = P M.start

  walk : (e k : ℕ) (outs : List Effect) (v : Parts) (d : Disk) (N : Seen) → Began N → Walks Began e k outs (Up Began k v) d N
  walk e k [] v d N its = its
  walk e k (Do z ∷ es) v d N its = (λ how. its, walk e k es v (worked z d) N its)
  walk e k (Say b ∷ es) v d N its = walk e k es v d (with_lines e (b ∷ []) N) its
  walk e k (Send to m ∷ es) v d N its =
      λ more quiet. walk e k es v d (with_lines e more (posted (record { from = k; to = to; message = m }) N)) its

  -- what holds of the start stays so
  starts_stay : (hd : Header) (F : Type 0) → F → KeepsFrom hd F (λ (M : Seen). P M.start)
  starts_stay hd F first = record {
    quiet = λ e bs M quiet its. its;
    stop = λ e k d live M its. its;
    message = λ e k d t v from m outs M its sent meant is. walk e k outs v d M its;
    act = λ e k d t i M is asks free its. let did = does i d.intents t.coord in walk e k did.outs (with_coord t did.part) d M its;
    begin = λ e k d t l how parent M new may free its.
        let did = begin_action l how parent (parent_of parent t.coord) t.coord in
        walk e k did.outs (with_coord t did.part) d (given l (record { node = k; serial = is_serial how }) M) its;
    tick = λ e k d t M its. walk e k (tick_outs (record { number = k; disk = d; live = Some t }) t)
        (with_coord t (let r = again_all t.coord.doings t.coord in r.part)) d M its;
    restart = λ e k d M its. walk e k (restart_outs hd k (d.inc + 1) d) (parts_in k (d.inc + 1) d) d M its;
    first = first;
  }

-- the start of what is seen is formed
pub starts_keep : (hd : Header) → KeepsAsked hd (λ (M : Seen). IsFormed hd M.start)
starts_keep hd = starts_stay (IsFormed hd) hd (IsAtStarts hd (λ (M : Seen). IsFormed hd M.start)) (λ st formed. formed)

-- it is that of the run
abbrev pub BeganSo : Start → Seen → Type 0
BeganSo st M = M.start ≡ st

pub began_so : (hd : Header) (st : Start) → KeepsFrom hd ⊤ (BeganSo st)
began_so hd st = starts_stay (λ s. s ≡ st) hd ⊤ tt
