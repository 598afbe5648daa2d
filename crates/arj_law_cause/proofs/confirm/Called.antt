-- Servers are asked to vote, naming to confirm, and stores to prepare, only for commits that the journal says were called.
use Rattle.arj_law_parts.proofs.Words
use Words.{◌≡◌, ◌⊎◌, ◌||◌, ◌∙◌, ◌+◌, ◌++◌, cons_option, ⊤, ℕ, Bool, true, false, cond, List, [], ◌∷◌, Option, Some, None, refl, sym, ap}
use Words.{subst, inl, inr, ⊎_elim}
use Words.{append-nil, AllByRecursion, Ask, Body, Head, Header, Label, Line, Uid, actor, asks, is_on, uid_eq, again_all, begin_action}
use Words.{At, AtActivate, AtBind, AtInvoke, AtLoad, AtNote, Goal, ask_at, Confirming, Machine, Preparing, Voting}
use Words.{ask_of, say_for, Calling, Committing, Coord, Doing, Idle, Now, doing_of, Disk, Do, Effect, Say, Send}
use Words.{worked, tick_outs, Parts, with_coord, Input, Node, acts, parent_of, parts_in, restart_outs, numbered, Post, Seen, is_serial}
use Words.ask
use Words.body
use Words.commit
use Rattle.arj_law_parts.specs.moves.Keeps.{KeepsAsked, Keeps, is_act}
use Rattle.arj_law_parts.specs.moves.Seen.{In, given, up}
use Rattle.arj_law_parts.specs.moves.Seen as seen
use Rattle.arj_law_parts.specs.moves.Walks.{Up, Walks}
use Rattle.arj_law_parts.proofs.moves.Happens.{keeps_asked}
use Rattle.arj_law_parts.proofs.moves.Together.{walks_both}
use Rattle.arj_law_lock_view.proofs.Terms.{same_number, some_is}
use Rattle.arj_law_promise.proofs.meant.Posts.{act_sends, message_sends, tick_sends}
use Rattle.arj_law_promise.proofs.waiting.Serving.{restart_asks}
use Rattle.arj_law_runs.proofs.calls.CoordSends.{AllSo, IsSentBy}
use Rattle.arj_law_runs.specs.calls.Coords.{bare}
use Rattle.arj_law_runs.specs.journal.Book.{Book, book, book_from, new_book, turned}
use Rattle.arj_law_serial.proofs.Terms
use Terms.{SayOf, book_more, kept_both, IncludesAreSaid}
use Rattle.arj_law_serial.proofs.joint.{CommitCalls.NoCall, CommitCalls.end_quiet, CommitCalls.marks_quiet, CommitCalls.no_call}
use Rattle.arj_law_serial.proofs.joint.JoinRuns.{IsBased, based_keep, joins_given}
use Rattle.arj_law_serial.proofs.joint.MarkRuns.{named_at}
use Rattle.arj_law_serial.proofs.whole.CalledSays.{acts_fine, calls_commit, message_fine, restart_fine, tick_fine}

-- ---- calls by the journal

-- by these lines the commit of this action was called
abbrev pub is_called : List Line → Uid → Type 0
is_called lines u = is_on (let B = book lines in B.called) u ≡ true

stays_called : (B : Book) (b : Body) → calls_commit b ≡ false → (let V = turned B b in V.called) ≡ B.called
stays_called B (body.Committing l) off = absurd (cc off)
stays_called B (body.Began l k u p) off = refl
stays_called B (body.Committed l) off = refl
stays_called B (body.Aborted l c) off = refl
stays_called B (body.Ended l) off = refl
stays_called B (body.Recovered n u) off = refl
stays_called B (body.Ok l x o r) off = refl
stays_called B (body.Includes l x n) off = refl
stays_called B b off = refl

grows : (B : Book) (b : Body) (u : Uid) → is_on B.called u ≡ true → is_on (let V = turned B b in V.called) u ≡ true
grows B b u on = by b
  where
    behind : (o : Option Uid) → is_on (cons_option o B.called) u ≡ true
    behind None = on
    behind (Some w) = or_last (uid_eq w u)
      where
        or_last : (c : Bool) → (c || is_on B.called u) ≡ true
        or_last true = refl
        or_last false = on

    by : (b : Body) → is_on (let V = turned B b in V.called) u ≡ true
    by (body.Committing l) = behind _
    by (body.Began l k w p) = on
    by (body.Committed l) = on
    by (body.Aborted l c) = on
    by (body.Ended l) = on
    by (body.Recovered n w) = on
    by (body.Ok l x o r) = on
    by (body.Includes l x n) = on
    by b = on

called_from : (B : Book) (ls : List Line) (u : Uid) → is_on B.called u ≡ true → is_on (let V = book_from B ls in V.called) u ≡ true
called_from B [] u on = on
called_from B (l ∷ ls) u on = called_from (turned B l.body) ls u (grows B l.body u on)

pub called_more : (ls ks : List Line) (u : Uid) → is_called ls u → is_called (ls ++ ks) u
called_more ls ks u on = subst (λ (B : Book). is_on B.called u ≡ true) (sym (book_more new_book ls ks)) (called_from (book ls) ks u on)

-- a line that calls no commit leaves who was called
pub called_back : (ls : List Line) (e : ℕ) (b : Body) (u : Uid) → calls_commit b ≡ false → is_called (ls ++ numbered e (b ∷ [])) u →
    is_called ls u
called_back ls e b u off on = ap (λ us. is_on us u) (sym (ap (λ (B : Book). B.called) (book_more new_book ls (numbered e (b ∷ [])))
    ∙ stays_called (book ls) b off)) ∙ on

-- ---- requests

-- the request asks to vote for, to prepare or to confirm no commit, or one that was called
abbrev pub AsksCalled : Ask → Uid → List Line → Type 0
AsksCalled (ask.Confirm grants excluded included) u lines = is_called lines u
AsksCalled (ask.Prepare states) u lines = is_called lines u
AsksCalled (ask.Vote i ties ends) u lines = is_called lines u
AsksCalled _ u lines = ⊤

-- so it is of each request that was sent
abbrev pub RequestsCalled : Seen → Type 0
RequestsCalled M = (p : Post) (h : Head) (a : Ask) → In p M.sent → asks p.message ≡ Some (h, a) → AsksCalled a (actor h.path) M.lines

asks_more : (a : Ask) (u : Uid) (ls ks : List Line) → AsksCalled a u ls → AsksCalled a u (ls ++ ks)
asks_more (ask.Confirm grants excluded included) u ls ks on = called_more ls ks u on
asks_more (ask.Bind x include avoid) u ls ks on = tt
asks_more (ask.Load x) u ls ks on = tt
asks_more (ask.Activate b st) u ls ks on = tt
asks_more (ask.Record x b i g) u ls ks on = tt
asks_more (ask.Invoke x b i ends op) u ls ks on = tt
asks_more (ask.Vote i ties ends) u ls ks on = called_more ls ks u on
asks_more (ask.Prepare states) u ls ks on = called_more ls ks u on

called_bare : (a : Ask) (u : Uid) (ls : List Line) → AsksCalled (bare a) u ls → AsksCalled a u ls
called_bare (ask.Confirm grants excluded included) u ls on = on
called_bare (ask.Bind x include avoid) u ls on = tt
called_bare (ask.Load x) u ls on = tt
called_bare (ask.Activate b st) u ls on = tt
called_bare (ask.Record x b i g) u ls on = tt
called_bare (ask.Invoke x b i ends op) u ls on = tt
called_bare (ask.Vote i ties ends) u ls on = on
called_bare (ask.Prepare states) u ls on = on

step_called : (x : ℕ) (g : Goal) (at : At) (u : Uid) (ls : List Line) → AsksCalled (ask_at x g [] at) u ls
step_called x g (AtBind avoid) u ls = tt
step_called x g (AtLoad k s rest) u ls = tt
step_called x g (AtActivate k st) u ls = tt
step_called x g (AtNote k i) u ls = tt
step_called x g (AtInvoke k i) u ls = tt

machine_called : (m : Machine) (to : ℕ) (u : Uid) (ls : List Line) → is_called ls u → AsksCalled (ask_of m to) u ls
machine_called (Voting p left) to u ls on = on
machine_called (Preparing p left) to u ls on = on
machine_called (Confirming p) to u ls on = on

-- ---- a coordinator

-- what commits under way include is known, and so that they were called
abbrev pub Based : Seen → Type 0
Based M = IsBased M × IncludesAreSaid M

pub based_so : (hd : Header) → Keeps hd Based
based_so hd = kept_both hd IsBased IncludesAreSaid (based_keep hd) (joins_given hd)

module _ (k : ℕ) (c : Disk) (v : Parts) (N : Seen) (known : Based (up k c v N)) where
  abbrev mine : Node
  mine = record { number = k; disk = c; live = Some v }

  here : (let M = up k c v N in M.nodes k) ≡ Some (record { number = k; disk = c; live = Some v })
  here = λ i. cond (same_number k i) (Some (record { number = k; disk = c; live = Some v })) (N.nodes k)

  pub under_way : (u : Uid) (q : Doing) (m : Machine) → doing_of u v.coord ≡ Some q → q.now ≡ Committing m → is_called N.lines u
  under_way u q m found now =
      let f = (known.1 k mine v here refl).1 u q m found now in
      let named = named_at (up k c v N) known.0.0 k mine v u q m here refl found now in
      ap (is_on (let B = book N.lines in B.called)) (sym named.uid ∙ ap (λ (a : _). a.uid) (some_is (sym named.named ∙ f.1))) ∙ f.2

  pub sent_called : (to : ℕ) (h : Head) (a : Ask) → IsSentBy v.coord to h a → AsksCalled a (actor h.path) N.lines
  sent_called to h a s = by (let q = s.doing in q.now) refl
    where
      by : (n : Now) → (let q = s.doing in q.now) ≡ n → AsksCalled a (actor h.path) N.lines
      by Idle is = absurd (s.busy is)
      by (Calling w) is = let o = s.step w is in called_bare a (actor h.path) N.lines
          (subst (λ z. AsksCalled z (actor h.path) N.lines) (sym o.same) (step_called w.x w.goal w.at (actor h.path) N.lines))
      by (Committing m) is = let o = s.commit m is in subst (λ z. AsksCalled z (actor h.path) N.lines) (sym o.same)
          (machine_called m to (actor h.path) N.lines (under_way (actor h.path) s.doing m s.found is))

-- ---- effects

abbrev pub Quiet : List Effect → Type 0
Quiet outs = AllByRecursion (SayOf NoCall) outs

-- no effect calls a commit, or the first alone
abbrev pub Calls : List Effect → Type 0
Calls outs = Quiet outs ⊎ ((l : Label) × (rest : List Effect) × (outs ≡ Say (body.Committing l) ∷ rest) × Quiet rest)

-- whom the lines at the end say was called was called before
end_of : (R : Seen → Type 0) (e k : ℕ) (v : Parts) (outs : List Effect) (d : Disk) (M : Seen) → Quiet outs →
    Walks R e k outs (Up R k v) d M →
    (c : Disk) × (N : Seen) × R (up k c v N) × ((u : Uid) → is_called N.lines u → is_called M.lines u)
end_of R e k v [] d M quiet w = (d, M, w, λ u on. on)
end_of R e k v (Do x ∷ es) d M quiet w = end_of R e k v es (worked x d) M quiet.1 w.1
end_of R e k v (Say b ∷ es) d M quiet w = let z = end_of R e k v es d (seen.said e (b ∷ []) M) quiet.1 w in
    (z.0, z.1, z.2, λ u on. called_back M.lines e b u quiet.0 (z.3 u on))
end_of R e k v (Send to m ∷ es) d M quiet w =
    let z = end_of R e k v es d (seen.said e [] (seen.posted (record { from = k; to = to; message = m }) M)) quiet.1 (w [] refl) in
    (z.0, z.1, z.2, λ u on. subst (λ ls. is_called ls u) (append-nil M.lines) (z.3 u on))

walk : (e k : ℕ) (v : Parts) (outs : List Effect) (d : Disk) (M : Seen) → AllSo v.coord outs →
    ((to : ℕ) (h : Head) (a : Ask) → IsSentBy v.coord to h a → AsksCalled a (actor h.path) M.lines) → RequestsCalled M →
    Walks RequestsCalled e k outs (Up RequestsCalled k v) d M
walk e k v [] d M so each all = all
walk e k v (Do x ∷ es) d M so each all = (
  (λ how p h a there is. asks_more a (actor h.path) M.lines (numbered e (body.Halted k ∷ [])) (all p h a there is)),
  walk e k v es (worked x d) M so.1 each all,
)
walk e k v (Say b ∷ es) d M so each all = walk e k v es d (seen.said e (b ∷ []) M) so.1
    (λ to h a by. asks_more a (actor h.path) M.lines (numbered e (b ∷ [])) (each to h a by))
    (λ p h a there is. asks_more a (actor h.path) M.lines (numbered e (b ∷ [])) (all p h a there is))
walk e k v (Send to m ∷ es) d M so each all =
    λ more quiet. walk e k v es d (seen.said e more (seen.posted (record { from = k; to = to; message = m }) M)) so.1
    (λ n h a by. asks_more a (actor h.path) M.lines (numbered e more) (each n h a by))
    (λ p h a there is. ⊎_elim
    (λ same. asks_more a (actor h.path) M.lines (numbered e more) (each to h a (so.0 h a (ap (λ (q : Post). asks q.message) same ∙ is))))
    (λ old. asks_more a (actor h.path) M.lines (numbered e more) (all p h a old is)) there)

-- where it is known at the end that commits under way were called
walked_quiet : (e k : ℕ) (outs : List Effect) (v : Parts) (d : Disk) (M : Seen) → AllSo v.coord outs → Quiet outs →
    Walks Based e k outs (Up Based k v) d M → RequestsCalled M → Walks RequestsCalled e k outs (Up RequestsCalled k v) d M
walked_quiet e k outs v d M sends quiet w all =
    let z = end_of Based e k v outs d M quiet w in
    walk e k v outs d M sends (λ to h a by. back a (actor h.path) z.1.lines z.3 (sent_called k z.0 v z.1 z.2 to h a by)) all
  where
    back : (a : Ask) (u : Uid) (ls : List Line) → ((w : Uid) → is_called ls w → is_called M.lines w) → AsksCalled a u ls →
        AsksCalled a u M.lines
    back (ask.Confirm grants excluded included) u ls to on = to u on
    back (ask.Bind x include avoid) u ls to on = tt
    back (ask.Load x) u ls to on = tt
    back (ask.Activate b st) u ls to on = tt
    back (ask.Record x b i g) u ls to on = tt
    back (ask.Invoke x b i ends op) u ls to on = tt
    back (ask.Vote i ties ends) u ls to on = to u on
    back (ask.Prepare states) u ls to on = to u on

walked : (e k : ℕ) (outs : List Effect) (v : Parts) (d : Disk) (M : Seen) → AllSo v.coord outs → Calls outs →
    Walks Based e k outs (Up Based k v) d M → RequestsCalled M → Walks RequestsCalled e k outs (Up RequestsCalled k v) d M
walked e k outs v d M sends (inl quiet) w all = walked_quiet e k outs v d M sends quiet w all
walked e k outs v d M sends (inr (l, rest, is, quiet)) w all = subst (λ es. Walks RequestsCalled e k es (Up RequestsCalled k v) d M)
    (sym is)
    (behind (subst (AllSo v.coord) is sends) (subst (λ es. Walks Based e k es (Up Based k v) d M) is w))
  where
    behind : AllSo v.coord (Say (body.Committing l) ∷ rest) → Walks Based e k (Say (body.Committing l) ∷ rest) (Up Based k v) d M →
        Walks RequestsCalled e k (Say (body.Committing l) ∷ rest) (Up RequestsCalled k v) d M
    behind so walk_on = walked_quiet e k rest v d (seen.said e (body.Committing l ∷ []) M) so.1 quiet walk_on
        (λ p h a there at. asks_more a (actor h.path) M.lines (numbered e (body.Committing l ∷ [])) (all p h a there at))

pub act_calls : (i : Input) (d : Disk) (c : Coord) → is_act i ≡ true → Calls (acts i d.intents c).outs
act_calls i d c is = acts_fine NoCall no_call Calls (λ es q. inl q) c i d.intents
    (λ l how parent same. let no_way : false ≡ true = sym (ap is_act same) ∙ is in cc no_way)
    (λ u q s found now e ends l. end_quiet s.x s.goal e l) (λ u q m found now. marks_quiet q (commit.given_up m).marks)
    (λ l same u es q. one u es q (doing_of u c))
  where
    one : (u : Uid) (es : List Effect) → Quiet es → (o : Option Doing) → Calls (say_for body.Committing o ++ es)
    one u es q None = inl q
    one u es q (Some w) = inr (w.label, es, refl, q)

-- ---- each handler

abbrev pub BasedCalled : Seen → Type 0
BasedCalled M = Based M × RequestsCalled M

pub called_keep : (hd : Header) → KeepsAsked hd BasedCalled
called_keep hd = record {
  quiet = λ e bs M quiet g. (
    keeps.quiet e bs M quiet g.0,
    λ p h a there is. asks_more a (actor h.path) M.lines (numbered e bs)
        (g.1 p h a there is),
  );
  stop = λ e k d live M g. (
    keeps.stop e k d live M g.0,
    λ p h a there is. asks_more a (actor h.path) M.lines (numbered e (body.Halted k ∷ []))
        (g.1 p h a there is),
  );
  message = λ e k d t v from m outs M g there meant is. let b = g.0.0.0.0 in
      beside e k outs v d M (message_sends b.0 e k d t M b.1 from m v outs is)
      (inl (message_fine NoCall no_call k d t v from m outs is (λ a r q s of found now waits w ends l. end_quiet s.x s.goal w l)
      (λ a r q z of found now. marks_quiet q (commit.answered from z r).marks)))
      (keeps.message e k d t v from m outs M g.0 there meant is) g.1;
  act = λ e k d t i M is asks free g. let did = acts i d.intents t.coord in let b = g.0.0.0.0 in
      beside e k did.outs (with_coord t did.part) d M (act_sends b.0 e k d t M b.1 i is) (act_calls i d t.coord is)
      (keeps.act e k d t i M is asks free g.0) g.1;
  begin = λ e k d t l how parent M new may free g. let did = begin_action l how parent (parent_of parent t.coord) t.coord in
      beside e k did.outs (with_coord t did.part) d (given l (record { node = k; serial = is_serial how }) M) (tt, tt) (inl (refl, tt))
      (keeps.begin e k d t l how parent M new may free g.0) g.1;
  tick = λ e k d t M g. let b = g.0.0.0.0 in beside e k (tick_outs (record { number = k; disk = d; live = Some t }) t)
      (with_coord t (again_all t.coord.doings t.coord).part) d M (tick_sends b.0 e k d t M b.1)
      (inl (tick_fine NoCall no_call (record { number = k; disk = d; live = Some t }) t)) (keeps.tick e k d t M g.0) g.1;
  restart = λ e k d M g. beside e k (restart_outs hd k (d.inc + 1) d) (parts_in k (d.inc + 1) d) d M (restart_asks hd k (d.inc + 1) d)
      (inl (restart_fine NoCall no_call hd k (d.inc + 1) d)) (keeps.restart e k d M g.0) g.1;
  first = λ st formed. (keeps.first st formed, λ p h a there. absurd there);
}
  where
    keeps : KeepsAsked hd Based
    keeps = keeps_asked hd Based (based_so hd)

    beside : (e k : ℕ) (outs : List Effect) (v : Parts) (d : Disk) (M : Seen) → AllSo v.coord outs → Calls outs →
        Walks Based e k outs (Up Based k v) d M → RequestsCalled M →
        Walks BasedCalled e k outs (Up BasedCalled k v) d M
    beside e k outs v d M sends calls w all = walks_both Based RequestsCalled e k outs (Up Based k v) (Up RequestsCalled k v) d M w
        (walked e k outs v d M sends calls w all)
