-- In every run a commit under way has said what it marked.
use Rattle.arj_law_parts.proofs.Words
use Words.{◌≡◌, ◌≢◌, ◌⊎◌, ◌||◌, ◌==◌, ◌++◌, ◌∙◌, ◌+◌, ℕ, Bool, true, false, cond, List, [], ◌∷◌, Option, Some, None, ap}
use Words.{eqb-true, refl, subst, sym, ⊎_elim, list_all, bytes_eq, and_parts, bytes_eq-Decides, again_all, begin_action}
use Words.{Machine, Preparing, plan_of, Committing, Coord, Doing, doing_of, Disk, Do, Effect, Say, Send, stopped, worked, say_for, says}
use Words.{tick_outs, Parts, Took, handle, with_coord, Input, Node, acts, parent_of, parts_in}
use Words.{restart_outs, Branch, at_place, is_own, Body, Header, Kind, Label, Line, Message, Uid, name, numbered}
use Words.{Seen, world_by, actor, is_serial}
use Words.input
use Words.body
use Rattle.arj_law_serial.proofs.Terms
use Terms.{IsAtStarts, first_up}
use Terms.{KeepsGiven, kept_both, book, new_book, AreLined, IsKept, KnowsUp, IsKnown, Right, act_turns, lines_keep, Act, act_in, AreBegun}
use Terms.{paths_of, IsBusy, IsGoodCoord, IsVoting, begun_tree, path_found, IsGood, IsMemory, other_number, same_number, is_act, AreQuiet}
use Terms.{at, given, is_quiet_line, posted, said as said_lines, up, Up, Walks, halted, kept_holds, moves_keep, MarksAreSaid, excludes}
use Terms.{was_marked}
use Rattle.arj_law_runs.proofs.addresses.Lists.{some_is}
use Rattle.arj_law_serial.proofs.joint
use joint.MarkMoves.{Distinct, IsMarking, Moves, NoMark, acts_move, after, apart_none, message_moves, plain_moves, said_in, unmarked}
use joint.MarkMoves.{unmarked_said, or_more}
use joint.MarkStates.{All, again_same, begins_all, fits_same, new_all, or_false}
use Rattle.arj_law_serial.proofs.whole.CalledSays.{restart_fine, tick_fine}
use Rattle.arj_law_serial.specs.joint.Marked.{RunsSayMarks, SaysMarks}

-- ---- lines

pub quiet_none : (b : Body) → is_quiet_line b ≡ true → NoMark b
quiet_none (body.Excluded m y n) is l x s = absurd (cc is)
quiet_none b is l x s = refl

pub no_left : (a b : Bool) → (a || b) ≡ false → a ≡ false
no_left true b is = absurd (cc is)
no_left false b is = refl

pub no_right : (a b : Bool) → (a || b) ≡ false → b ≡ false
no_right true b is = absurd (cc is)
no_right false b is = is

pub marked_more : (ls ks : List Line) (l : List ℕ) (x s : ℕ) → was_marked (ls ++ ks) l x s ≡ (was_marked ls l x s || was_marked ks l x s)
marked_more [] ks l x s = refl
marked_more (k ∷ ls) ks l x s = ap (λ b. excludes l x s k.body || b) (marked_more ls ks l x s)
    ∙ or_more (excludes l x s k.body) (was_marked ls l x s) (was_marked ks l x s)

quiet_marked : (e : ℕ) (bs : List Body) → AreQuiet bs → (l : List ℕ) (x s : ℕ) → was_marked (numbered e bs) l x s ≡ false
quiet_marked e [] quiet l x s = refl
quiet_marked e (b ∷ bs) quiet l x s = let p = and_parts (is_quiet_line b) (list_all is_quiet_line bs) quiet in
    λ i. quiet_none b p.0 l x s i || quiet_marked e bs p.1 l x s i

pub same_marked : (e : ℕ) (bs : List Body) (ls : List Line) → AreQuiet bs → (l : List ℕ) (x s : ℕ) →
    was_marked (ls ++ numbered e bs) l x s ≡ was_marked ls l x s
same_marked e bs ls quiet l x s = marked_more ls (numbered e bs) l x s ∙ ap (λ b. was_marked ls l x s || b) (quiet_marked e bs quiet l x s)
    ∙ or_false (was_marked ls l x s)

says_on : (ls ks : List Line) (d : Doing) → ((m : Machine) → d.now ≡ Committing m → (x s : ℕ) →
    was_marked ks (name d.label) x s ≡ was_marked ls (name d.label) x s) → SaysMarks ls d → SaysMarks ks d
says_on ls ks d same its m now = fits_same (was_marked ls (name d.label)) (was_marked ks (name d.label)) (same m now) m (its m now)

-- ---- names

none_at : {A P : Type 0} {o : Option A} {x : A} → o ≡ None → o ≡ Some x → P
none_at {A} {P} {o} {x} none is = let no_way : ◌≡◌ {A = Option A} None (Some x) = sym none ∙ is in absurd (cc no_way)

-- the label of a commit under way is that of its action, at its node
pub record IsNamed (M : Seen) (j : ℕ) (u : Uid) (d : Doing) : Type 0 where
  pub act : Act
  pub named : act_in (book M.lines).acts (name d.label) ≡ Some act
  pub uid : act.uid ≡ u
  pub node : u.node ≡ j

pub own_doing : (u : Uid) (c : Coord) (d : Doing) → doing_of u c ≡ Some d → is_own u c.tree ≡ true
own_doing u c d found = by (is_own u c.tree) found
  where
    by : (b : Bool) → cond b (at_place u.num c.doings) None ≡ Some d → b ≡ true
    by true is = refl
    by false is = absurd (cc is)

pub named_at : (M : Seen) → IsKept M → (j : ℕ) (n : Node) (t : Parts) (u : Uid) (d : Doing) (m : Machine) → M.nodes j ≡ Some n →
    n.live ≡ Some t → doing_of u t.coord ≡ Some d → d.now ≡ Committing m → IsNamed M j u d
named_at M kept j n t u d m here live found now = record {
  act = known.act;
  named = known.named;
  uid = known.uid;
  node = eqb-true u.node t.coord.tree.node
      (and_parts (u.node == t.coord.tree.node) (u.inc == t.coord.tree.inc) (own_doing u t.coord d found)).0 ∙ home;
}
  where
    good : IsGood M
    good = kept.0

    begun : AreBegun good.0
    begun = let w = good.1 in w.begun

    memory : IsMemory good.0 M.sent M.labels j (let x = n.disk in x.inc) (Some t)
    memory =
        subst (IsMemory good.0 M.sent M.labels j (let x = n.disk in x.inc)) live (let w = good.1 in let p = w.places j n here in p.memory)

    home : t.coord.tree.node ≡ j
    home = memory.node

    coord : IsGoodCoord good.0 (paths_of good.0) t.coord
    coord = let q = memory.good (paths_of good.0) (begun_tree good.0 begun) (path_found good.0 begun) in q.coord

    voting : IsVoting t.coord.tree u (plan_of m)
    voting = subst (IsBusy t.coord.tree u) now (coord.busy u d found)

    up_there : KnowsUp (book M.lines) (let x = n.disk in x.intents) t.coord
    up_there = let w = kept.1 in let k = w.nodes j n here in k.live t live

    known : IsKnown (book M.lines) u (let a = voting.asking in let b = a.branch in b.kind) (let a = voting.asking in let b = a.branch in
        b.ended) d.label
    known = let k = up_there.knows in k.acts u (let a = voting.asking in a.branch) d (let a = voting.asking in a.found) found

-- who has the same name is the same
one_name : (M : Seen) (i j : ℕ) (u w : Uid) (d q : Doing) → IsNamed M i u d → IsNamed M j w q →
    bytes_eq (name d.label) (name q.label) ≡ true → u ≡ w
one_name M i j u w d q a b same =
    let e : ◌≡◌ {A = Option Act} (Some a.act) (Some b.act) = sym a.named
    ∙ ap (act_in (book M.lines).acts) ((bytes_eq-Decides (name d.label) (name q.label)).0 same) ∙ b.named in
    sym a.uid ∙ ap (λ (z : Act). z.uid) (let one : a.act ≡ b.act = cc e in one) ∙ b.uid

-- ---- one node apart from the others

abbrev Others : ℕ → Seen → Type 0
Others k M = (j : ℕ) (n : Node) (t : Parts) (u : Uid) (d : Doing) → (j ≡ k → ⊥) → M.nodes j ≡ Some n → n.live ≡ Some t →
    doing_of u t.coord ≡ Some d → SaysMarks M.lines d

-- these effects mark nothing by a name of theirs
abbrev Apart : ℕ → List Effect → Seen → Type 0
Apart k outs M = (j : ℕ) (n : Node) (t : Parts) (u : Uid) (d : Doing) (m : Machine) → (j ≡ k → ⊥) → M.nodes j ≡ Some n → n.live ≡ Some t →
    doing_of u t.coord ≡ Some d → d.now ≡ Committing m → (x s : ℕ) → said_in outs (name d.label) x s ≡ false

back : (k : ℕ) (d : Disk) (live : Option Parts) (M : Seen) → ((t : Parts) → live ≡ Some t → All (was_marked M.lines) t.coord) → Others k M →
    MarksAreSaid (at k d live M)
back k d live M its o j n t u q is live_is found = by (j == k) refl is
  where
    by : (b : Bool) → (j == k) ≡ b → cond b (Some (record { number = k; disk = d; live = live })) (M.nodes j) ≡ Some n → SaysMarks M.lines q
    by true same e = let here : record { number = k; disk = d; live = live } ≡ n = some_is e in
        its t (ap (λ (z : Node). z.live) here ∙ live_is) u q found
    by false apart e =
        o j n t u q (λ same. let no_way : true ≡ false = sym (ap (λ z. z == k) same ∙ same_number k) ∙ apart in cc no_way) e live_is found

others_of : (k : ℕ) (d : Disk) (live : Option Parts) (M : Seen) → MarksAreSaid (at k d live M) → Others k M
others_of k d live M all j n t u q apart is live_is found = all j n t u q
    ((λ i. cond (other_number j k apart i) (Some (record { number = k; disk = d; live = live })) (M.nodes j)) ∙ is) live_is found

own_of : (k : ℕ) (d : Disk) (t : Parts) (M : Seen) → MarksAreSaid (up k d t M) → All (was_marked M.lines) t.coord
own_of k d t M all u q found = all k (record { number = k; disk = d; live = Some t }) t u q
    (λ i. cond (same_number k i) (Some (record { number = k; disk = d; live = Some t })) (M.nodes k)) refl found

quiet_others : (e k : ℕ) (bs : List Body) (M : Seen) → AreQuiet bs → Others k M → Others k (said_lines e bs M)
quiet_others e k bs M quiet o j n t u q apart is live found =
    says_on M.lines (M.lines ++ numbered e bs) q (λ m now. same_marked e bs M.lines quiet (name q.label)) (o j n t u q apart is live found)

down_so : (e k : ℕ) (d : Disk) (M : Seen) → Others k M → MarksAreSaid (halted e k d M)
down_so e k d M o = back k d None (said_lines e (body.Halted k ∷ []) M) (λ t is. none_at refl is) (λ j n t u q apart is live found.
    says_on M.lines (M.lines ++ numbered e (body.Halted k ∷ [])) q (λ m now x s. marked_more M.lines (numbered e (body.Halted k ∷ []))
    (name q.label) x s ∙ or_false (was_marked M.lines (name q.label) x s)) (o j n t u q apart is live found))

walk : (e k : ℕ) (v : Parts) (G : List ℕ → ℕ → ℕ → Bool) → All G v.coord → (rest : List Effect) (d : Disk) (M : Seen) →
    ((l : List ℕ) (x s : ℕ) → (was_marked M.lines l x s || said_in rest l x s) ≡ G l x s) → Others k M → Apart k rest M →
    Walks MarksAreSaid e k rest (Up MarksAreSaid k v) d M
walk e k v G own [] d M ends o apart = back k d (Some v) M (λ t is. subst (λ (z : Parts). All (was_marked M.lines) z.coord) (some_is is)
    (λ u q found m now. fits_same (G (name q.label)) (was_marked M.lines (name q.label))
    (λ x s. sym (or_false (was_marked M.lines (name q.label) x s)) ∙ ends (name q.label) x s) m (own u q found m now))) o
walk e k v G own (Do w ∷ es) d M ends o apart = (λ how. down_so e k (stopped how w d) M o, walk e k v G own es (worked w d) M ends o apart)
walk e k v G own (Say b ∷ es) d M ends o apart = walk e k v G own es d (said_lines e (b ∷ []) M)
    (λ l x s. ap (λ z. z || said_in es l x s) (marked_more M.lines (numbered e (b ∷ [])) l x s)
    ∙ sym (or_more (was_marked M.lines l x s) (excludes l x s b || false) (said_in es l x s))
    ∙ ap (λ z. was_marked M.lines l x s || (z || said_in es l x s)) (or_false (excludes l x s b)) ∙ ends l x s)
    (λ j n t u q other is live found. says_on M.lines (M.lines ++ numbered e (b ∷ [])) q (λ m now x s.
    marked_more M.lines (numbered e (b ∷ [])) (name q.label) x s ∙ ap (λ z. was_marked M.lines (name q.label) x s || (z || false))
    (no_left (excludes (name q.label) x s b) (said_in es (name q.label) x s) (apart j n t u q m other is live found now x s))
    ∙ or_false (was_marked M.lines (name q.label) x s)) (o j n t u q other is live found))
    (λ j n t u q m other is live found now x s.
    no_right (excludes (name q.label) x s b) (said_in es (name q.label) x s) (apart j n t u q m other is live found now x s))
walk e k v G own (Send to m ∷ es) d M ends o apart =
    λ more quiet. walk e k v G own es d (said_lines e more (posted (record { from = k; to = to; message = m }) M))
    (λ l x s. ap (λ z. z || said_in es l x s) (same_marked e more M.lines quiet l x s) ∙ ends l x s) (quiet_others e k more M quiet o) apart

-- ---- each handler

unmarked_apart : (k : ℕ) (outs : List Effect) (M : Seen) → ((l : List ℕ) (x s : ℕ) → said_in outs l x s ≡ false) → Apart k outs M
unmarked_apart k outs M none j n t u d m other is live found now x s = none (name d.label) x s

module _ (e k : ℕ) (d : Disk) (t : Parts) (M : Seen) (kept : IsKept (up k d t M)) (all : MarksAreSaid (up k d t M)) where
  own : All (was_marked M.lines) t.coord
  own = own_of k d t M all

  here : (up k d t M).nodes k ≡ Some (record { number = k; disk = d; live = Some t })
  here i = cond (same_number k i) (Some (record { number = k; disk = d; live = Some t })) (M.nodes k)

  its_name : (u : Uid) (q : Doing) (m : Machine) → doing_of u t.coord ≡ Some q → q.now ≡ Committing m → IsNamed (up k d t M) k u q
  its_name u q m found now = named_at (up k d t M) kept k (record { number = k; disk = d; live = Some t }) t u q m here refl found now

  distinct : Distinct t.coord
  distinct u w q z m n apart one two at is = by (bytes_eq (name q.label) (name z.label)) refl
    where
      by : (b : Bool) → bytes_eq (name q.label) (name z.label) ≡ b → b ≡ false
      by false same = refl
      by true same = absurd (apart (one_name (up k d t M) k k u w q z (its_name u q m one at) (its_name w z n two is) same))

  apart_of : (outs : List Effect) → ((l : List ℕ) (x s : ℕ) → (said_in outs l x s ≡ false) ⊎ IsMarking t.coord outs l) → Apart k outs M
  apart_of outs whose j n v u q m other is live found now x s = ⊎_elim (λ none. none)
      (λ mark.
      let a = its_name mark.action mark.doing (Preparing mark.plan mark.left) mark.found mark.now in
      let b = named_at (up k d t M) kept j n v u q m ((λ i.
      cond (other_number j k other i) (Some (record { number = k; disk = d; live = Some t })) (M.nodes j)) ∙ is) live found now in
      let same = one_name (up k d t M) k j mark.action u mark.doing q a b mark.named in
      absurd (other (sym b.node ∙ ap (λ (w : Uid). w.node) (sym same) ∙ a.node)))
      (whose (name q.label) x s)

  moves_walk : (v : Parts) (outs : List Effect) → Moves (was_marked M.lines) t.coord outs v.coord →
      Walks MarksAreSaid e k outs (Up MarksAreSaid k v) d M
  moves_walk v outs moves = walk e k v (after (was_marked M.lines) outs) moves.all outs d M (λ l x s. refl) (others_of k d (Some t) M all)
      (apart_of outs moves.whose)

  pub message_moved : (v : Parts) (from : ℕ) (m : Message) (outs : List Effect) → handle k d t from m ≡ Took v outs →
      Moves (was_marked M.lines) t.coord outs v.coord
  message_moved v from m outs is = message_moves (was_marked M.lines) t.coord distinct own k d t v from m outs refl is

  message_walk : (v : Parts) (from : ℕ) (m : Message) (outs : List Effect) → handle k d t from m ≡ Took v outs →
      Walks MarksAreSaid e k outs (Up MarksAreSaid k v) d M
  message_walk v from m outs is = moves_walk v outs (message_moved v from m outs is)

  pub act_moved : (hd : Header) (i : Input) → is_act i ≡ true → input.refusal_up hd i t.coord ≡ None →
      (let did = acts i d.intents t.coord in Moves (was_marked M.lines) t.coord did.outs did.part)
  act_moved hd i is free = acts_move (was_marked M.lines) t.coord distinct own i d.intents other fresh
    where
      other : (l : Label) (how : Kind) (parent : Option Label) → i ≢ input.Begin l how parent
      other l how parent same = let no_way : false ≡ true = sym (ap is_act same) ∙ is in cc no_way

      lined : AreLined k (book M.lines) (let did = acts i d.intents t.coord in did.outs)
      lined = let g = act_turns e k d t M kept.0 kept.1 hd i is free in g.lined

      fresh : (b : Branch) (es : List Effect) → (let did = acts i d.intents t.coord in did.outs) ≡ says (actor b.path) body.Committing
          t.coord ++ es → (q : Doing) → doing_of (actor b.path) t.coord ≡ Some q → (x s : ℕ) → was_marked M.lines (name q.label) x s ≡ false
      fresh b es are q found x s =
          let first : AreLined k (book M.lines) (Say (body.Committing q.label) ∷ es) = subst
          (λ o. AreLined k (book M.lines) (say_for body.Committing o ++ es)) found (subst (AreLined k (book M.lines)) are lined) in
          let right : Right (book M.lines) (body.Committing q.label) = first.0.0 in
          let open_it = right.1 in
          unmarked new_book M.lines (let w = kept.1 in w.right) (name q.label) right.0 open_it.named right.3 x s

  act_walk : (hd : Header) (i : Input) → is_act i ≡ true → input.refusal_up hd i t.coord ≡ None →
      (let did = acts i d.intents t.coord in Walks MarksAreSaid e k did.outs (Up MarksAreSaid k (with_coord t did.part)) d M)
  act_walk hd i is free = let did = acts i d.intents t.coord in moves_walk (with_coord t did.part) did.outs (act_moved hd i is free)

-- each of them keeps it, beside good nodes and the journal
pub marks_given : (hd : Header) → KeepsGiven hd IsKept MarksAreSaid
marks_given hd = record {
  quiet = λ e bs M quiet g p j n t u q is live found.
      says_on M.lines (M.lines ++ numbered e bs) q (λ m now. same_marked e bs M.lines quiet (name q.label)) (p j n t u q is live found);
  stop = λ e k d live M g p. down_so e k d M (others_of k d live M p);
  message = λ e k d t v from m outs M g p there meant is. message_walk e k d t M g p v from m outs is;
  act = λ e k d t i M is free g p. act_walk e k d t M g p hd i is free;
  begin = λ e k d t l how parent M new may free g p.
      let did = begin_action l how parent (parent_of parent t.coord) t.coord in
      let N = given l (record { node = k; serial = is_serial how }) M in
      walk e k (with_coord t did.part) (was_marked M.lines) (begins_all (was_marked M.lines) l how parent t.coord (own_of k d t M p))
      did.outs d N (λ y x s. or_false (was_marked M.lines y x s)) (others_of k d (Some t) M p)
      (unmarked_apart k did.outs N (λ y x s. refl));
  tick = λ e k d t M g p. let r = again_all t.coord.doings t.coord in
      moves_walk e k d t M g p (with_coord t r.part) (tick_outs (record { number = k; disk = d; live = Some t }) t)
      (plain_moves (was_marked M.lines) t.coord (tick_outs (record { number = k; disk = d; live = Some t }) t) r.part
      (tick_fine NoMark apart_none (record { number = k; disk = d; live = Some t }) t)
      (again_same (was_marked M.lines) t.coord.doings t.coord (own_of k d t M p)));
  restart = λ e k d M g p.
      let outs = restart_outs hd k (d.inc + 1) d in
      let none = unmarked_said outs (restart_fine NoMark apart_none hd k (d.inc + 1) d) in
      walk e k (parts_in k (d.inc + 1) d) (was_marked M.lines) (new_all (was_marked M.lines) k (d.inc + 1) d.intents) outs d M
      (λ l x s. ap (λ b. was_marked M.lines l x s || b) (none l x s) ∙ or_false (was_marked M.lines l x s)) (others_of k d None M p)
      (unmarked_apart k outs M none);
  first = first_so;
}
  where
    first_so : IsAtStarts hd MarksAreSaid
    first_so st formed j n t u q is live found = subst (λ (z : Parts). All (was_marked []) z.coord) (first_up hd st j n t is live)
        (new_all (was_marked []) j (st.incs j + 1) []) u q found

pub runs_say_marks : RunsSayMarks
runs_say_marks hd r =
    let h = kept_holds hd (world_by hd r) (moves_keep hd r) (λ M. IsKept M × MarksAreSaid M)
    (kept_both hd IsKept MarksAreSaid (lines_keep hd) (marks_given hd)) in
    record { sent = h.sent; stands = h.stands; holds = h.holds.1 }
