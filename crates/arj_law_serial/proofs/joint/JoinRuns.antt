-- In every run a commit under way includes what survives in its top, and roots have noted the includes of their actions.
use Rattle.arj_law_parts.proofs.Words
use Words.{◌≡◌, ◌⊎◌, ◌==◌, ◌++◌, ◌∙◌, ◌+◌, arith, ℕ, zero, suc, Bool, true, false, cond, List, [], ◌∷◌, Option, Some, None, Contains, ap}
use Words.{eqb-true, inl, inr, refl, subst, sym, ⊎_elim, length, ⊤, AllByRecursion, and_parts, first_uid, In, in_from}
use Words.{in_to, again_all, begin_action, began_line, Committing, Coord, Doing, Idle, Now, new_coord, Disk, Do, Effect, Intent, Say, Send}
use Words.{stopped, worked, tick_outs, Parts, Took, handle, with_coord, Node, acts, begin_refusal}
use Words.{parent_of, parts_in, restart_outs, at_place, is_own, new_tree, next_uid, Body, Header, Kind, Label, Message, Uid, name}
use Words.{numbered, Seen, is_serial}
use Words.body
use Rattle.arj_law_serial.proofs.Terms
use Terms.{IsAtStarts, first_up}
use Terms.{option_map, KeepsGiven, keeps_given, kept_both, Access, Book, book, new_book, turned, with_access, AreLined, IsKept, after}
use Terms.{Right, book_more, Stands, stands_lines, stands_new, stands_turn, act_turns, lines_keep, message_turns, tick_turns, path_old}
use Terms.{its_own, Act, uids, get_more, IsGood, IsMemory, other_number, same_number, Keeps, MayGive, label_at, AreQuiet, at, down, given}
use Terms.{posted, said as said_lines, up, Up, Walks, halted, binds_keep, HasJoined, IncludesAreNoted, IncludesAreSaid, PlansInclude}
use Terms.seen
use Rattle.arj_law_parts.specs.parts.Actions.{IsCounted}
use Rattle.arj_law_runs.proofs.addresses.{BindRuns.AreBound, Lists.some_is}
use Rattle.arj_law_runs.proofs.journal.{Books.quiet_book, Runs.behind_first, Runs.rest_goes}
use Rattle.arj_law_runs.specs.journal.Knows.{IsAbout, KnowsNode, root_in}
use Rattle.arj_law_serial.proofs.joint
use joint.{Called.right_behind, JoinLines.fits_turn}
use joint.JoinHeard.{apart_none, NoAccess, none_after}
use joint.JoinMoves.{Own, act_own, message_own, tick_own}
use Rattle.arj_law_serial.proofs.whole.CalledSays.{restart_fine}

none_at : {A P : Type 0} {o : Option A} {x : A} → o ≡ None → o ≡ Some x → P
none_at {A} {P} {o} {x} none is = let no_way : ◌≡◌ {A = Option A} None (Some x) = sym none ∙ is in absurd (cc no_way)

-- ---- what lines of another node leave

-- lines are right where they come, and about this node's actions
abbrev AreTold : ℕ → Book → List Effect → Type 0
AreTold k B [] = ⊤
AreTold k B (Say b ∷ es) = (Right B b × IsAbout k B b) × AreTold k (turned B b) es
AreTold k B (Send to m ∷ es) = AreTold k B es
AreTold k B (Do w ∷ es) = AreTold k B es

told_of : (k : ℕ) (B : Book) (es : List Effect) → AreLined k B es → AreTold k B es
told_of k B [] lined = tt
told_of k B (Say b ∷ es) lined = (lined.0, told_of k (turned B b) es lined.1)
told_of k B (Send to m ∷ es) lined = told_of k B es lined.1
told_of k B (Do w ∷ es) lined = told_of k B es lined.1

module _ (k : ℕ) (B : Book) (stands : Stands B) (c : Coord) (away : c.tree.node ≡ k → ⊥) where
  acted : (a : Access) → Contains B.accesses a → In a.act B.acts
  acted a there = let z = stands.sane in in_from a.act B.acts (z.acted a there)

  notes_apart : (b : Body) → Right B b → IsAbout k B b → IncludesAreNoted B c → IncludesAreNoted (turned B b) c
  notes_apart (body.Began l how w p) right about notes a s there store own = subst (λ us. HasJoined a.x s us
      (root_in (first_uid us) c.roots)) (sym (ap uids (path_old new B.acts a.act right.0 (acted a there)))) (notes a s there store own)
    where
      new : Act
      new = record { id = length B.acts; label = name l; kind = how; uid = w; parent = option_map name p }
  notes_apart (body.Ok l x o r) (i, opened, quiet) about notes a s there store own = ⊎_elim
      (λ same. let no_way : ◌≡◌ {A = Option ℕ} None (Some s) = ap (λ (y : Access). y.store) same ∙ store in absurd (cc no_way))
      (λ old. notes a s (in_to a B.accesses old) store own)
      (in_from a (record { act = i; x = x; store = None } ∷ B.accesses)
      (subst (λ xs. Contains xs a) (ap (λ z. with_access z x None B.accesses) opened.named) there))
  notes_apart (body.Includes l x n) (i, opened, quiet) about notes a s there store own = ⊎_elim
      (λ same. absurd
      (away (sym (eqb-true (let u = i.uid in u.node) c.tree.node (and_parts (let u = i.uid in u.node == c.tree.node) (let u = i.uid in
      u.inc == c.tree.inc) (ap (λ (y : Access). is_own (let e = y.act in e.uid) c.tree) same ∙ own)).0) ∙ about i opened.named)))
      (λ old. notes a s (in_to a B.accesses old) store own)
      (in_from a (record { act = i; x = x; store = Some n } ∷ B.accesses)
      (subst (λ xs. Contains xs a) (ap (λ z. with_access z x (Some n) B.accesses) opened.named) there))
  notes_apart (body.Committing l) right about notes a s there store own = notes a s there store own
  notes_apart (body.Committed l) right about notes a s there store own = notes a s there store own
  notes_apart (body.Aborted l w) right about notes a s there store own = notes a s there store own
  notes_apart (body.Ended l) right about notes a s there store own = notes a s there store own
  notes_apart (body.Recovered n u) right about notes a s there store own = notes a s there store own
  notes_apart b right about notes a s there store own = notes a s there store own

  own_apart : (b : Body) → Right B b → IsAbout k B b → Own B c → Own (turned B b) c
  own_apart b right about own =
      (notes_apart b right about own.0, λ u d m found now. fits_turn B b right stands (name d.label) m (own.1 u d m found now))

-- ---- one node apart from the others

abbrev Others : ℕ → Book → Seen → Type 0
Others k B M = (j : ℕ) (n : Node) (t : Parts) → (j ≡ k → ⊥) → M.nodes j ≡ Some n → n.live ≡ Some t →
    (t.coord.tree.node ≡ k → ⊥) × Own B t.coord

back : (k : ℕ) (d : Disk) (live : Option Parts) (M : Seen) (B : Book) → book M.lines ≡ B → ((t : Parts) → live ≡ Some t → Own B t.coord) →
    Others k B M → IncludesAreSaid (at k d live M)
back k d live M B same its o j n t is live_is = subst (λ X. Own X t.coord) (sym same) (by (j == k) refl is)
  where
    by : (b : Bool) → (j == k) ≡ b → cond b (Some (record { number = k; disk = d; live = live })) (M.nodes j) ≡ Some n → Own B t.coord
    by true here e = let node : record { number = k; disk = d; live = live } ≡ n = some_is e in
        its t (ap (λ (z : Node). z.live) node ∙ live_is)
    by false apart e =
        (o j n t (λ here. let no_way : true ≡ false = sym (ap (λ z. z == k) here ∙ same_number k) ∙ apart in cc no_way) e live_is).1

others_of : (k : ℕ) (d : Disk) (live : Option Parts) (M : Seen) → IsGood (at k d live M) → IncludesAreSaid (at k d live M) →
    Others k (book M.lines) M
others_of k d live M good all j n t apart is live_is = ((λ here. apart (sym home ∙ here)), all j n t its live_is)
  where
    its : (at k d live M).nodes j ≡ Some n
    its = (λ i. cond (other_number j k apart i) (Some (record { number = k; disk = d; live = live })) (M.nodes j)) ∙ is

    memory : IsMemory good.0 M.sent M.labels j (let x = n.disk in x.inc) (Some t)
    memory =
        subst (IsMemory good.0 M.sent M.labels j (let x = n.disk in x.inc)) live_is (let w = good.1 in let p = w.places j n its in p.memory)

    home : t.coord.tree.node ≡ j
    home = memory.node

own_of : (k : ℕ) (d : Disk) (t : Parts) (M : Seen) → IncludesAreSaid (up k d t M) → Own (book M.lines) t.coord
own_of k d t M all = all k (record { number = k; disk = d; live = Some t }) t
    (λ i. cond (same_number k i) (Some (record { number = k; disk = d; live = Some t })) (M.nodes k)) refl

quiet_same : (e : ℕ) (bs : List Body) (M : Seen) → AreQuiet bs → book (said_lines e bs M).lines ≡ book M.lines
quiet_same e bs M quiet = book_more new_book M.lines (numbered e bs) ∙ quiet_book (book M.lines) e bs quiet

down_so : (e k : ℕ) (d : Disk) (M : Seen) (B : Book) → book M.lines ≡ B → Others k B M → IncludesAreSaid (halted e k d M)
down_so e k d M B same o = back k d None (said_lines e (body.Halted k ∷ []) M) B
    (book_more new_book M.lines (numbered e (body.Halted k ∷ [])) ∙ same) (λ t is. none_at refl is) o

walk : (e k : ℕ) (v : Parts) (V : Book) → Own V v.coord → (rest : List Effect) (d : Disk) (M : Seen) (B : Book) → book M.lines ≡ B →
    after B rest ≡ V → AreTold k B rest → Stands B → Others k B M → Walks IncludesAreSaid e k rest (Up IncludesAreSaid k v) d M
walk e k v V own [] d M B same ends told stands o =
    back k d (Some v) M B same (λ t is. subst (λ (z : Parts). Own B z.coord) (some_is is) (subst (λ X. Own X v.coord) (sym ends) own)) o
walk e k v V own (Do w ∷ es) d M B same ends told stands o =
    (λ how. down_so e k (stopped how w d) M B same o, walk e k v V own es (worked w d) M B same ends told stands o)
walk e k v V own (Say b ∷ es) d M B same ends told stands o = walk e k v V own es d (said_lines e (b ∷ []) M) (turned B b)
    (book_more new_book M.lines (numbered e (b ∷ [])) ∙ ap (λ X. turned X b) same) ends told.1 (stands_turn B b told.0.0 stands)
    (λ j n t apart is live. let z = o j n t apart is live in (z.0, own_apart k B stands t.coord z.0 b told.0.0 told.0.1 z.1))
walk e k v V own (Send to m ∷ es) d M B same ends told stands o = λ more quiet. walk e k v V own es d
    (said_lines e more (posted (record { from = k; to = to; message = m }) M)) B (quiet_same e more M quiet ∙ same) ends told stands o

-- ---- an action begins, and a node restarts

module _ (B : Book) (l : Label) (how : Kind) (parent : Option Label) (c : Coord) (stands : Stands B)
    (right : Right B (began_line l how (next_uid c.tree) parent)) where
  abbrev begins : Coord
  begins = (begin_action l how parent (parent_of parent c) c).part

  abbrev V : Book
  V = turned B (began_line l how (next_uid c.tree) parent)

  begin_own : Own B c → Own V begins
  begin_own own = (notes, plans)
    where
      new : Act
      new = record { id = length B.acts; label = name l; kind = how; uid = next_uid c.tree; parent = option_map name parent }

      fresh : Doing
      fresh = record { label = l; req = 0; now = Idle; took = [] }

      notes : IncludesAreNoted V begins
      notes a s there store mine = subst (λ us. HasJoined a.x s us (root_in (first_uid us) c.roots)) (sym (ap uids
          (path_old new B.acts a.act right.0 (let z = stands.sane in in_from a.act B.acts (z.acted a there))))) (own.0 a s there store mine)

      was : (d : Doing) (b : Bool) (j : ℕ) → cond b (at_place j (c.doings ++ fresh ∷ [])) None ≡ Some d →
          (cond b (at_place j c.doings) None ≡ Some d) ⊎ (d.now ≡ Idle)
      was d true zero at = absurd (cc at)
      was d true (suc j) at = ⊎_elim (λ old. inl old) (λ its. inr (ap (λ (z : Doing). z.now) (sym its.1))) (get_more j fresh d c.doings at)
      was d false j at = absurd (cc at)

      plans : PlansInclude V begins
      plans u d m found now = ⊎_elim
          (λ old. fits_turn B (began_line l how (next_uid c.tree) parent) right stands (name d.label) m (own.1 u d m old now))
          (λ last. let no_way : ◌≡◌ {A = Now} Idle (Committing m) = sym last ∙ now in absurd (cc no_way))
          (was d (is_own u c.tree) u.num found)

no_plans : (B : Book) (node inc : ℕ) (telling : List (Uid × Intent)) → PlansInclude B (record (new_coord node inc) { telling = telling })
no_plans B node inc telling u d m found now = absurd (by (is_own u (let c = new_coord node inc in c.tree)) u.num found)
  where
    by : (x : Bool) (j : ℕ) → cond x (at_place j []) None ≡ Some d → ⊥
    by true zero e = cc e
    by true (suc j) e = cc e
    by false j e = cc e

-- nobody began in an incarnation that comes
not_yet : (k inc count : ℕ) (xs : List Act) (a : Act) → AllByRecursion (λ (x : Act). IsCounted k inc count x.uid) xs → In a xs →
    is_own a.uid (new_tree k (inc + 1)) ≡ true → ⊥
not_yet k inc count [] a all i own = i
not_yet k inc count (x ∷ xs) a all (inr i) own = not_yet k inc count xs a all.1 i own
not_yet k inc count (x ∷ xs) a all (inl same) own =
    let p = and_parts (let u = a.uid in u.node == k) (let u = a.uid in u.inc == inc + 1) own in
    let its : (let u = x.uid in u.inc) ≡ inc + 1 = ap (λ (y : Act). let u = y.uid in u.inc) same
    ∙ eqb-true (let u = a.uid in u.inc) (inc + 1) p.1 in
    ⊎_elim (λ lower. omega (arith, lower, its)) (λ here. omega (arith, here.0, its))
    (all.0 (ap (λ (y : Act). let u = y.uid in u.node) same ∙ eqb-true (let u = a.uid in u.node) k p.0))

-- ---- each handler

-- good nodes, the journal and Binds
abbrev pub IsBased : Seen → Type 0
IsBased M = IsKept M × AreBound M

stands_of : (M : Seen) → IsKept M → Stands (book M.lines)
stands_of M kept = let w = kept.1 in stands_lines new_book M.lines w.right stands_new

restart_own : (hd : Header) (e k : ℕ) (d : Disk) (M : Seen) → IsKept (down k d M) →
    Own (after (book M.lines) (behind_first (behind_first (restart_outs hd k (d.inc + 1) d)))) (let p = parts_in k (d.inc + 1) d in p.coord)
restart_own hd e k d M kept = (notes, no_plans V k (d.inc + 1) d.intents)
  where
    B : Book
    B = book M.lines

    V : Book
    V = after (book M.lines) (behind_first (behind_first (restart_outs hd k (d.inc + 1) d)))

    node : KnowsNode (book M.lines) k (record { number = k; disk = d; live = None })
    node = its_own k d None M kept.1

    notes : IncludesAreNoted V (let p = parts_in k (d.inc + 1) d in p.coord)
    notes a s there store mine =
        let sane = (let z = stands_of (down k d M) kept in z.sane) in
        let old : Contains (let X = book M.lines in X.accesses) a = subst (λ xs. Contains xs a)
        (none_after (book M.lines) (restart_outs hd k (d.inc + 1) d) (restart_fine NoAccess apart_none hd k (d.inc + 1) d)) there in
        let c = node.counts in
        absurd (not_yet k d.inc c.0 (let X = book M.lines in
        X.acts) a.act c.1 (in_from a.act (let X = book M.lines in X.acts) (sane.acted a old)) mine)

pub joins_given : (hd : Header) → KeepsGiven hd IsBased IncludesAreSaid
joins_given hd = record {
  quiet = λ e bs M quiet g p j n t is live. subst (λ X. Own X t.coord) (sym (quiet_same e bs M quiet)) (p j n t is live);
  stop = λ e k d live M g p. down_so e k d M (book M.lines) refl (others_of k d live M g.0.0 p);
  message = λ e k d t v from m outs M g p there meant is. walk e k v (after (book M.lines) outs)
      (message_own e k d t M g.0 (own_of k d t M p) g.1.1 v from m outs there is) outs d M (book M.lines) refl refl
      (told_of k (book M.lines) outs (let z = message_lined e k d t M g.0 v from m outs there is in z)) (stands_of (up k d t M) g.0)
      (others_of k d (Some t) M g.0.0 p);
  act = λ e k d t i M is free g p.
      let did = acts i d.intents t.coord in
      walk e k (with_coord t did.part) (after (book M.lines) did.outs) (act_own e k d t M g.0 (own_of k d t M p) hd i is free) did.outs d M
      (book M.lines) refl refl
      (told_of k (book M.lines) did.outs (let z = act_turns e k d t M g.0.0 g.0.1 hd i is free in z.lined)) (stands_of (up k d t M) g.0)
      (others_of k d (Some t) M g.0.0 p);
  begin = λ e k d t l how parent M new may free g p.
      begin_walk e k d t l how parent M g.0 p (lines_right e k d t l how parent M new may free g.0);
  tick = λ e k d t M g p.
      let outs = tick_outs (record { number = k; disk = d; live = Some t }) t in
      let r = again_all t.coord.doings t.coord in
      walk e k (with_coord t r.part) (after (book M.lines) outs) (tick_own e k d t M g.0 (own_of k d t M p)) outs d M (book M.lines) refl
      refl
      (told_of k (book M.lines) outs (let z = tick_turns e k d t M g.0.0 g.0.1 in z.lined)) (stands_of (up k d t M) g.0)
      (others_of k d (Some t) M g.0.0 p);
  restart = λ e k d M g p.
      let es = behind_first (behind_first (restart_outs hd k (d.inc + 1) d)) in
      walk e k (parts_in k (d.inc + 1) d) (after (book M.lines) es) (restart_own hd e k d M g.0) (restart_outs hd k (d.inc + 1) d) d M
      (book M.lines) refl refl
      (told_of k (book M.lines) es (let z = rest_goes hd e k d M g.0.0 g.0.1 in z.lined)) (stands_of (down k d M) g.0)
      (others_of k d None M g.0.0 p);
  first = first_so;
}
  where
    message_lined :
        (e k : ℕ) (d : Disk) (t : Parts) (M : Seen) (kept : IsKept (up k d t M)) (v : Parts) (from : ℕ) (m : Message) (outs : List Effect) →
        seen.In (record { from = from; to = k; message = m }) M.sent → handle k d t from m ≡ Took v outs → AreLined k (book M.lines) outs
    message_lined e k d t M kept v from m outs there is = let z = message_turns e k d t M kept.0 kept.1 v from m outs there is in z.lined

    lines_right : (e k : ℕ) (d : Disk) (t : Parts) (l : Label) (how : Kind) (parent : Option Label) (M : Seen) →
        label_at l M.labels ≡ None → MayGive M.labels k how parent → begin_refusal how t.coord parent ≡ None → IsKept (up k d t M) →
        Right (book M.lines) (began_line l how (next_uid t.coord.tree) parent)
    lines_right e k d t l how parent M new may free kept =
        let keep = lines_keep hd in
        let z = keep.begin e k d t l how parent M new may free kept in
        let w = z.1 in
        (right_behind new_book M.lines (numbered e (began_line l how (next_uid t.coord.tree) parent ∷ [])) w.right).0

    begin_walk : (e k : ℕ) (d : Disk) (t : Parts) (l : Label) (how : Kind) (parent : Option Label) (M : Seen) → IsKept (up k d t M) →
        IncludesAreSaid (up k d t M) → Right (book M.lines) (began_line l how (next_uid t.coord.tree) parent)
        → (let did = begin_action l how parent (parent_of parent t.coord) t.coord in Walks IncludesAreSaid e k did.outs
        (Up IncludesAreSaid k (with_coord t did.part)) d (given l (record { node = k; serial = is_serial how }) M))
    begin_walk e k d t l how parent M kept p right =
        let did = begin_action l how parent (parent_of parent t.coord) t.coord in
        let N : Seen = given l (record { node = k; serial = is_serial how }) M in
        walk e k (with_coord t did.part) (after (book M.lines) did.outs) (begin_own (book M.lines) l how parent t.coord
        (stands_of (up k d t M) kept) right (own_of k d t M p)) did.outs d N (book M.lines) refl refl
        ((right, home), tt) (stands_of (up k d t M) kept) (others_of k d (Some t) M kept.0 p)
      where
        memory : IsMemory (let g = kept.0 in g.0) M.sent M.labels k d.inc (Some t)
        memory = let g = kept.0 in let w = g.1 in let q = w.places k (record { number = k; disk = d; live = Some t })
            (λ i. cond (same_number k i) (Some (record { number = k; disk = d; live = Some t })) (M.nodes k)) in q.memory

        home : (next_uid t.coord.tree).node ≡ k
        home = memory.node

    first_so : IsAtStarts hd IncludesAreSaid
    first_so st formed j n t is live = subst (λ (z : Parts). Own new_book z.coord) (first_up hd st j n t is live)
        ((λ b s there. absurd (in_from b [] there)), no_plans new_book j (st.incs j + 1) [])

-- what it stands on is kept by each handler
pub based_keep : (hd : Header) → Keeps hd IsBased
based_keep hd = kept_both hd IsKept AreBound (lines_keep hd) (keeps_given hd IsKept AreBound (binds_keep hd))
