-- A node's effects, walked through: which lines and messages have come, and what is on its disk.
use Rattle.arj_law_parts.proofs.Words
use Words.{◌≡◌, ◌⊎◌, ◌∙◌, ◌++◌, ◌==◌, ◌||◌, ℕ, List, [], ◌∷◌, Bool, true, false, cond, Option, Some, None, refl, sym, ap, subst, inl, inr}
use Words.{⊎_elim, ⊤, AllByRecursion, cons_option, list_all, and_parts, or_cases, append_assoc, uid_is, is_on, uid_eq, Body, End, Line}
use Words.{Role, Uid, Disk, Do, Effect, Say, Send, stopped, worked, After, Stop, Parts, numbered, Post, Seen}
use Words.body
use Words.ending
use Words.role
use Rattle.arj_law_promise.proofs.Terms
use Terms.{Act, AreQuiet, In, at, is_quiet_line, posted, said, up, Walks, halted, walks_to, same_number, Book, book, book_from, is_decided}
use Terms.{new_book, turned, uid_in, book_more}
use Rattle.arj_law_runs.specs.journal.Book.{with_named}

-- ---- lines

-- an abort by a store is none of these lines
abbrev pub IsNoDrop : Role → End → Type 0
IsNoDrop role.Store ending.Abort = ⊥
IsNoDrop r e = ⊤

-- who is decided by the line is one of these, of these actions; none begins; and no store aborts
abbrev pub LineMild : (Uid → Type 0) → List Act → Body → Type 0
LineMild U acts (body.Committed l) = (x : Uid) → uid_in acts l ≡ Some x → U x
LineMild U acts (body.Recovered n x) = U x
LineMild U acts (body.Began l k u p) = ⊥
LineMild U acts (body.Done n u r e) = IsNoDrop r e
LineMild U acts b = ⊤

pub quiet_mild : (U : Uid → Type 0) (acts : List Act) (b : Body) → is_quiet_line b ≡ true → LineMild U acts b
quiet_mild U acts (body.Committed l) q = absurd (cc q)
quiet_mild U acts (body.Recovered n x) q = absurd (cc q)
quiet_mild U acts (body.Began l k u p) q = absurd (cc q)
quiet_mild U acts (body.Done n u r e) q = absurd (cc q)
quiet_mild U acts b q = tt

-- what the book has then
record Turns (U : Uid → Type 0) (B V : Book) : Type 0 where
  acts : V.acts ≡ B.acts
  decided : (x : Uid) → is_decided V x ≡ true → (is_decided B x ≡ true) ⊎ U x

left_on : (a b : Bool) → a ≡ true → (a || b) ≡ true
left_on a b e = ap (λ c. c || b) e

right_on : (a b : Bool) → b ≡ true → (a || b) ≡ true
right_on true b e = refl
right_on false b e = e

turned_mild : (U : Uid → Type 0) (B : Book) (b : Body) → LineMild U B.acts b → Turns U B (turned B b)
turned_mild U B (body.Committed l) mild = record {
  acts = refl;
  decided = λ x on. ⊎_elim (λ c. by (uid_in B.acts l) refl x c) (λ f. inl (right_on (is_on B.committed x) (is_on B.found x) f))
      (or_cases (is_on (with_named B.acts l B.committed) x) (is_on B.found x) on);
}
  where
    by : (o : Option Uid) → uid_in B.acts l ≡ o → (x : Uid) → is_on (with_named B.acts l B.committed) x ≡ true →
        (is_decided B x ≡ true) ⊎ U x
    by None none x on =
        inl (left_on (is_on B.committed x) (is_on B.found x) (sym (ap (λ o. is_on (cons_option o B.committed) x) none) ∙ on))
    by (Some w) is x on = ⊎_elim (λ same. inr (mild x (is ∙ ap Some (uid_is w x same)))) (λ old. inl (left_on (is_on B.committed x)
        (is_on B.found x) old)) (or_cases (uid_eq w x) (is_on B.committed x) (sym (ap (λ o. is_on (cons_option o B.committed) x) is) ∙ on))
turned_mild U B (body.Recovered n w) mild = record {
  acts = refl;
  decided = λ x on. ⊎_elim (λ c. inl (left_on (is_on B.committed x) (is_on B.found x) c))
      (λ f. ⊎_elim (λ same. inr (subst U (uid_is w x same) mild)) (λ old. inl (right_on (is_on B.committed x) (is_on B.found x) old))
      (or_cases (uid_eq w x) (is_on B.found x) f)) (or_cases (is_on B.committed x) (is_on (w ∷ B.found) x) on);
}
turned_mild U B (body.Began l k u p) mild = absurd mild
turned_mild U B (body.Committing l) mild = record { acts = refl; decided = λ x on. inl on }
turned_mild U B (body.Aborted l c) mild = record { acts = refl; decided = λ x on. inl on }
turned_mild U B (body.Ended l) mild = record { acts = refl; decided = λ x on. inl on }
turned_mild U B (body.Ok l x o r) mild = record { acts = refl; decided = λ y on. inl on }
turned_mild U B (body.Includes l x n) mild = record { acts = refl; decided = λ y on. inl on }
turned_mild U B b mild = record { acts = refl; decided = λ x on. inl on }

abbrev AllMild : (Uid → Type 0) → List Act → List Line → Type 0
AllMild U acts lines = AllByRecursion (λ (l : Line). LineMild U acts l.body) lines

mild_from : (U : Uid → Type 0) (B : Book) (ls : List Line) → AllMild U B.acts ls → Turns U B (book_from B ls)
mild_from U B [] all = record { acts = refl; decided = λ x on. inl on }
mild_from U B (l ∷ ls) all =
    let t = turned_mild U B l.body all.0 in
    let r = mild_from U (turned B l.body) ls (subst (λ acts. AllMild U acts ls) (sym t.acts) all.1) in
    record { acts = r.acts ∙ t.acts; decided = λ x on. ⊎_elim (λ old. t.decided x old) (λ new. inr new) (r.decided x on) }

-- who is decided behind such lines was so, or is one of these
pub mild_decides : (U : Uid → Type 0) (first more : List Line) → AllMild U (let B = book first in B.acts) more → (x : Uid) →
    is_decided (book (first ++ more)) x ≡ true → (is_decided (book first) x ≡ true) ⊎ U x
mild_decides U first more all x on = let t = mild_from U (book first) more all in
    t.decided x (subst (λ B. is_decided B x ≡ true) (book_more new_book first more) on)

-- no store's abort is among them
pub mild_clean : (U : Uid → Type 0) (acts : List Act) (more before : List Line) (line : Line) (behind : List Line) (n : ℕ) (u : Uid) →
    AllMild U acts more → more ≡ before ++ line ∷ behind → line.body ≡ body.Done n u role.Store ending.Abort → ⊥
mild_clean U acts [] [] line behind n u all is says = cc is
mild_clean U acts [] (b ∷ before) line behind n u all is says = cc is
mild_clean U acts (m ∷ more) [] line behind n u all is says = let one : m ≡ line = cc is in
    subst (λ (b : Body). LineMild U acts b) (ap (λ (l : Line). l.body) one ∙ says) all.0
mild_clean U acts (m ∷ more) (b ∷ before) line behind n u all is says = let rest : more ≡ before ++ line ∷ behind = cc is in
    mild_clean U acts more before line behind n u all.1 rest says

-- ---- the trail

-- From these lines, posts and other nodes on: lines of which this holds have come, and posts of which this does, and the node is so.
pub record Went (k : ℕ) (M : Seen) (Says : Body → Type 0) (Sends : Post → Type 0) (D : Disk → Option Parts → Type 0) (Z : Seen) :
    Type 0 where
  pub more : List Line
  pub lines : Z.lines ≡ M.lines ++ more
  pub said_so : AllByRecursion (λ (l : Line). Says l.body) more
  pub back : (p : Post) → In p Z.sent → In p M.sent ⊎ ((p.from ≡ k) × Sends p)
  pub on : (p : Post) → In p M.sent → In p Z.sent
  pub others : (j : ℕ) → (j == k) ≡ false → Z.nodes j ≡ M.nodes j
  pub disk : Disk
  pub live : Option Parts
  pub here : Z.nodes k ≡ Some (record { number = k; disk = disk; live = live })
  pub fits : D disk live

nothing_more : {A : Type 0} (xs : List A) → xs ≡ xs ++ []
nothing_more [] = refl
nothing_more (x ∷ xs) = ap (λ ys. x ∷ ys) (nothing_more xs)

-- lines and posts, without the node itself
record Trail (k : ℕ) (M : Seen) (Says : Body → Type 0) (Sends : Post → Type 0) (Z : Seen) : Type 0 where
  more : List Line
  lines : Z.lines ≡ M.lines ++ more
  said_so : AllByRecursion (λ (l : Line). Says l.body) more
  back : (p : Post) → In p Z.sent → In p M.sent ⊎ ((p.from ≡ k) × Sends p)
  on : (p : Post) → In p M.sent → In p Z.sent
  others : (j : ℕ) → Z.nodes j ≡ M.nodes j

all_both : (P : Body → Type 0) (xs ys : List Line) → AllByRecursion (λ (l : Line). P l.body) xs →
    AllByRecursion (λ (l : Line). P l.body) ys → AllByRecursion (λ (l : Line). P l.body) (xs ++ ys)
all_both P [] ys a b = b
all_both P (x ∷ xs) ys a b = (a.0, all_both P xs ys a.1 b)

module _ (k : ℕ) (M : Seen) (Says : Body → Type 0) (Sends : Post → Type 0) (quiet : (b : Body) → is_quiet_line b ≡ true →
    Says b) (halts : Says (body.Halted k)) (D : Disk → Type 0) where
  -- down, and up
  abbrev pub Down : Disk → Option Parts → Type 0
  Down c live = D c × (live ≡ None)

  abbrev pub UpBy : Parts → Disk → Option Parts → Type 0
  UpBy v c live = D c × (live ≡ Some v)

  abbrev pub FitsSo : Effect → Type 0
  FitsSo (Say b) = Says b
  FitsSo (Send to m) = Sends (record { from = k; to = to; message = m })
  FitsSo (Do w) = (c : Disk) → D c → (how : Stop) → D (stopped how w c)

  lines_more : (e : ℕ) (bs : List Body) (Z : Seen) → AllByRecursion (λ (l : Line). Says l.body) (numbered e bs) → Trail k M Says Sends Z →
      Trail k M Says Sends (said e bs Z)
  lines_more e bs Z all t = record {
    more = t.more ++ numbered e bs;
    lines = ap (λ ls. ls ++ numbered e bs) t.lines ∙ append_assoc M.lines t.more (numbered e bs);
    said_so = all_both Says t.more (numbered e bs) t.said_so all;
    back = t.back;
    on = t.on;
    others = t.others;
  }

  quiet_lines : (e : ℕ) (bs : List Body) → AreQuiet bs → AllByRecursion (λ (l : Line). Says l.body) (numbered e bs)
  quiet_lines e [] q = tt
  quiet_lines e (b ∷ bs) q = let p = and_parts (is_quiet_line b) (list_all is_quiet_line bs) q in (quiet b p.0, quiet_lines e bs p.1)

  put_node : (c : Disk) (live : Option Parts) (E : Disk → Option Parts → Type 0) (Z : Seen) → E c live → Trail k M Says Sends Z →
      Went k M Says Sends E (at k c live Z)
  put_node c live E Z fits t = record {
    more = t.more;
    lines = t.lines;
    said_so = t.said_so;
    back = t.back;
    on = t.on;
    others = λ j other. (λ i. cond (other i) (Some (record { number = k; disk = c; live = live })) (Z.nodes j)) ∙ t.others j;
    disk = c;
    live = live;
    here = λ i. cond (same_number k i) (Some (record { number = k; disk = c; live = live })) (Z.nodes k);
    fits = fits;
  }

  stop_went : (e : ℕ) (c : Disk) (Z : Seen) → D c → Trail k M Says Sends Z → Went k M Says Sends Down (halted e k c Z)
  stop_went e c Z d t =
      let w = put_node c None Down (said e (body.Halted k ∷ []) Z) (d, refl) (lines_more e (body.Halted k ∷ []) Z (halts, tt) t) in record {
        more = w.more;
        lines = w.lines;
        said_so = w.said_so;
        back = w.back;
        on = w.on;
        others = w.others;
        disk = w.disk;
        live = w.live;
        here = w.here;
        fits = w.fits;
      }

  first_trail : Trail k M Says Sends M
  first_trail = record { more = []; lines = nothing_more M.lines; said_so = tt; back = λ p i. inl i; on = λ p i. i; others = λ j. refl }

  pub halt_went : (e : ℕ) (c : Disk) → D c → Went k M Says Sends Down (halted e k c M)
  halt_went e c fits = stop_went e c M fits first_trail

  went_from : (e : ℕ) (v : Parts) (outs : List Effect) (c : Disk) (Z : Seen) → AllByRecursion FitsSo outs → D c → Trail k M Says Sends Z →
      Walks (Went k M Says Sends Down) e k outs (λ d N. Went k M Says Sends (UpBy v) (up k d v N)) c Z
  went_from e v [] c Z all d t = put_node c (Some v) (UpBy v) Z (d, refl) t
  went_from e v (Do w ∷ es) c Z all d t =
      (λ how. stop_went e (stopped how w c) Z (all.0 c d how) t, went_from e v es (worked w c) Z all.1 (all.0 c d After) t)
  went_from e v (Say b ∷ es) c Z all d t = went_from e v es c (said e (b ∷ []) Z) all.1 d (lines_more e (b ∷ []) Z (all.0, tt) t)
  went_from e v (Send to m ∷ es) c Z all d t = λ more q. went_from e v es c (said e more (posted (record { from = k; to = to; message = m })
      Z)) all.1 d (lines_more e more (posted (record { from = k; to = to; message = m }) Z) (quiet_lines e more q)
      (record { more = t.more; lines = t.lines; said_so = t.said_so; back = back; on = λ p i. inr (t.on p i); others = t.others }))
    where
      back : (p : Post) → In p (record { from = k; to = to; message = m } ∷ Z.sent) → In p M.sent ⊎ ((p.from ≡ k) × Sends p)
      back p (inl same) = inr (ap (λ (q : Post). q.from) (sym same), subst Sends same all.0)
      back p (inr old) = t.back p old

  pub went : (e : ℕ) (v : Parts) (outs : List Effect) (d : Disk) → AllByRecursion FitsSo outs → D d →
      Walks (Went k M Says Sends Down) e k outs (λ c N. Went k M Says Sends (UpBy v) (up k c v N)) d M
  went e v outs d all fits = went_from e v outs d M all fits first_trail

-- ---- which lines were said

abbrev pub SaysIn : Body → List Effect → Type 0
SaysIn b [] = ⊥
SaysIn b (Say c ∷ es) = (c ≡ b) ⊎ SaysIn b es
SaysIn b (Send to m ∷ es) = SaysIn b es
SaysIn b (Do w ∷ es) = SaysIn b es

pub says_left : (b : Body) (xs ys : List Effect) → SaysIn b xs → SaysIn b (xs ++ ys)
says_left b [] ys i = absurd i
says_left b (Say c ∷ xs) ys (inl same) = inl same
says_left b (Say c ∷ xs) ys (inr i) = inr (says_left b xs ys i)
says_left b (Send to m ∷ xs) ys i = says_left b xs ys i
says_left b (Do w ∷ xs) ys i = says_left b xs ys i

pub says_right : (b : Body) (xs ys : List Effect) → SaysIn b ys → SaysIn b (xs ++ ys)
says_right b [] ys i = i
says_right b (Say c ∷ xs) ys i = inr (says_right b xs ys i)
says_right b (Send to m ∷ xs) ys i = says_right b xs ys i
says_right b (Do w ∷ xs) ys i = says_right b xs ys i

-- the line stands behind these
pub record HasLine (first lines : List Line) (b : Body) : Type 0 where
  pub event : ℕ
  pub before : List Line
  pub behind : List Line
  pub rest : List Line
  pub are : lines ≡ before ++ record { event = event; body = b } ∷ behind
  pub from : before ≡ first ++ rest

line_on : (first lines more : List Line) (b : Body) → HasLine first lines b → HasLine first (lines ++ more) b
line_on first lines more b h = record {
  event = h.event;
  before = h.before;
  behind = h.behind ++ more;
  rest = h.rest;
  are = ap (λ ls. ls ++ more) h.are ∙ append_assoc h.before (record { event = h.event; body = b } ∷ h.behind) more;
  from = h.from;
}

module _ (k : ℕ) (first : List Line) where
  abbrev Has : List Effect → List Line → Type 0
  Has outs lines = (b : Body) → SaysIn b outs → HasLine first lines b

  lines_walk : (e : ℕ) (v : Parts) (outs : List Effect) (d : Disk) (Z : Seen) (rest : List Line) → Z.lines ≡ first ++ rest →
      Walks (λ N. ⊤) e k outs (λ c N. Has outs N.lines × ((b : Body) → HasLine first Z.lines b → HasLine first N.lines b)) d Z
  lines_walk e v [] d Z rest is = ((λ b i. absurd i), (λ b h. h))
  lines_walk e v (Do w ∷ es) d Z rest is = ((λ how. tt), lines_walk e v es (worked w d) Z rest is)
  lines_walk e v (Say c ∷ es) d Z rest is =
      let l : Line = record { event = e; body = c } in
      walks_to (λ N. ⊤) (λ N. ⊤) e k es (λ x N. Has es N.lines
      × ((b : Body) → HasLine first (Z.lines ++ l ∷ []) b → HasLine first N.lines b)) (λ x N. Has (Say c ∷ es) N.lines
      × ((b : Body) → HasLine first Z.lines b → HasLine first N.lines b)) d (said e (c ∷ []) Z) (λ N t. t)
      (λ x N h. ((λ b i. one N h.0 h.1 b i), (λ b has. h.1 b (line_on first Z.lines (l ∷ []) b has))))
      (lines_walk e v es d (said e (c ∷ []) Z) (rest ++ l ∷ []) (ap (λ ls. ls ++ l ∷ []) is ∙ append_assoc first rest (l ∷ [])))
    where
      one : (N : Seen) → Has es N.lines → ((b : Body) → HasLine first (Z.lines ++ record { event = e; body = c } ∷ []) b →
          HasLine first N.lines b) → (b : Body) → (c ≡ b) ⊎ SaysIn b es → HasLine first N.lines b
      one N has on b (inr i) = has b i
      one N has on b (inl same) = subst (HasLine first N.lines) same
          (on c (record { event = e; before = Z.lines; behind = []; rest = rest; are = refl; from = is }))
  lines_walk e v (Send to m ∷ es) d Z rest is = λ more q.
      let Y : Seen = said e more (posted (record { from = k; to = to; message = m }) Z) in
      walks_to (λ N. ⊤) (λ N. ⊤) e k es (λ x N. Has es N.lines × ((b : Body) → HasLine first Y.lines b → HasLine first N.lines b))
      (λ x N. Has (Send to m ∷ es) N.lines × ((b : Body) → HasLine first Z.lines b → HasLine first N.lines b)) d Y (λ N t. t)
      (λ x N h. (h.0, (λ b has. h.1 b (line_on first Z.lines (numbered e more) b has))))
      (lines_walk e v es d Y (rest ++ numbered e more) (ap (λ ls. ls ++ numbered e more) is ∙ append_assoc first rest (numbered e more)))

pub said_lines : (k e : ℕ) (v : Parts) (outs : List Effect) (d : Disk) (M : Seen) →
    Walks (λ N. ⊤) e k outs (λ c N. (b : Body) → SaysIn b outs → HasLine M.lines N.lines b) d M
said_lines k e v outs d M = walks_to (λ N. ⊤) (λ N. ⊤) e k outs
    (λ c N. Has k M.lines outs N.lines × ((b : Body) → HasLine M.lines M.lines b → HasLine M.lines N.lines b)) (λ c N. (b : Body) →
    SaysIn b outs → HasLine M.lines N.lines b) d M (λ N t. t) (λ c N h. h.0) (lines_walk k M.lines e v outs d M [] (nothing_more M.lines))
