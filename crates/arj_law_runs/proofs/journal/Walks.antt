-- A node's effects, walked through: the journal stays right, and all nodes know it.
use Rattle.arj_law_parts.proofs.Words
use Words.{◌≡◌, ℕ, ◌==◌, ◌||◌, List, [], ◌∷◌, length, Bool, true, false, cond, Option, Some, None, refl, sym, ◌∙◌, ap, subst, ⊎_elim}
use Words.{eqb-true, ⊤, if◌then◌else◌, AllByRecursion, and_parts, is_on, in_from, in_to, Body, End, Kind, Message, Uid, name, Coord, Root}
use Words.{Abort, After, Before, Commit, Disk, Do, Effect, InPart, Look, Prepare, PutInc, PutIntent, RemoveIntent, Say, Send, Stop, Work}
use Words.{in_part, stopped, worked, Parts, put_uid, without_uid, Node, Tree, is_own, numbered, Post, Seen, is_serial}
use Words.body
use Words.ending
use Words.role
use Rattle.arj_law_runs.proofs.Terms
use Terms.{found_by, without_in, put_in, AreQuiet, at, posted, said, up, Up, Walks, halted, Book, book, is_decided, new_book}
use Terms.{turned, Ties, AreLined, Calls, Claims, Counts, EachRecord, IsAbout, IsCalled, IsEnd, IsGiven, IsLined, IsWritten, Knows, KnowsUp}
use Terms.{Puts, Remembers, AreRight, MayBeFound, Right, KnowsTops}
use Terms.seen
use Rattle.arj_law_runs.proofs.journal
use journal.{Ties.ties_turn}
use journal.Books.{Apart, Later, Sane, apart_turn, book_more, decided_later, later_turn, never, quiet_book, quiet_lines, right_more}
use journal.Effects.{are_later, claims_later, later_after}
use Rattle.arj_law_runs.proofs.kept.Walked.{other_number, same_number}
use Rattle.arj_law_runs.specs.journal.Knows.{AreBegun, KnowsNode, after}

-- ---- another node

module _ (k : ℕ) (B V : Book) (apart : Apart k B V) (later : Later B V) (tied : (t : Tree) (roots : List (ℕ × Root)) → (t.node ≡ k → ⊥) →
    Ties B.acts B.accesses t roots → Ties V.acts V.accesses t roots) where
  end_apart : (u : Uid) (h : Kind) (o : Option End) → (u.node ≡ k → ⊥) → IsEnd B u h o → IsEnd V u h o
  end_apart u h None off is =
      ((λ i. apart.committed u off i || (apart.aborted u off i || apart.ended u off i)) ∙ is.0, apart.found u off ∙ is.1)
  end_apart u h (Some ending.Commit) off is = (λ i. if is_serial h then apart.ended u off i else apart.committed u off i) ∙ is
  end_apart u h (Some ending.Abort) off is = apart.aborted u off ∙ is

  module _ (j : ℕ) (other : j ≡ k → ⊥) where
    off : (c : Coord) → c.tree.node ≡ j → (u : Uid) → is_own u c.tree ≡ true → u.node ≡ k → ⊥
    off c home u own here =
        other (sym (eqb-true u.node c.tree.node (and_parts (u.node == c.tree.node) (u.inc == c.tree.inc) own).0 ∙ home) ∙ here)

    coord_apart : (c : Coord) → c.tree.node ≡ j → Knows B c → Knows V c
    coord_apart c home s = record {
      acts = λ u b q found does. let n = s.acts u b q found does in record {
        act = n.act;
        named = apart.acts _ n.act n.named;
        uid = n.uid;
        kind = n.kind;
        end = end_apart u b.kind b.ended (off c home u (found_by u c.tree b found).0) n.end;
      };
      lists = λ r. are_later B V later _ (s.lists r);
      plans = λ u q m does is. are_later B V later _ (s.plans u q m does is);
      telling = λ u i there. decided_later B V later u (s.telling u i there);
      ties = tied c.tree c.roots (λ here. other (sym home ∙ here)) s.ties;
    }

    pub node_apart : (n : Node) → ((t : Parts) → n.live ≡ Some t → t.coord.tree.node ≡ j) → KnowsNode B j n → KnowsNode V j n
    node_apart n home s = record {
      records = λ u i there. let r = s.records u i there in
          record { here = r.here; called = later.called u r.called; kept = apart.aborted u (λ here. other (sym r.here ∙ here)) ∙ r.kept };
      counts = by n.live s.counts;
      live = λ t is. let l = s.live t is in record {
        knows = coord_apart t.coord (home t is) l.knows;
        calls = λ u b q found does opened. apart.called u (off t.coord (home t is) u (found_by u t.coord.tree b found).0)
            ∙ l.calls u b q found does opened;
        tops = l.tops;
        found = λ u i there. decided_later B V later u (l.found u i there);
      };
    }
      where
        by : (o : Option Parts) → Remembers B j (let d = n.disk in d.inc) o → Remembers V j (let d = n.disk in d.inc) o
        by None c = (c.0, apart.counts j _ c.0 other c.1)
        by (Some t) c = apart.counts j _ (length t.coord.tree.branches) other c

-- ---- records on a disk

-- the record that the work puts
abbrev PutsOne : (Uid → Type 0) → Work → Type 0
PutsOne P (PutIntent u i) = P u
PutsOne P _ = ⊤

each_worked : (P : Uid → Type 0) (w : Work) (d : Disk) → PutsOne P w → EachRecord P d.intents →
    EachRecord P (let x = worked w d in x.intents)
each_worked P Look d its all = all
each_worked P (PutInc i) d its all = all
each_worked P (Prepare role.Store u states) d its all = all
each_worked P (Prepare role.Names u states) d its all = all
each_worked P (Commit role.Store u) d its all = all
each_worked P (Commit role.Names u) d its all = all
each_worked P (Abort role.Store u) d its all = all
each_worked P (Abort role.Names u) d its all = all
each_worked P (PutIntent u i) d its all = λ w j there. ⊎_elim (λ same. subst P (sym same) its)
    (λ old. all w old.0 (in_to (w, old.0) d.intents old.1)) (put_in u i w j d.intents (in_from (w, j) (put_uid u i d.intents) there))
each_worked P (RemoveIntent u) d its all =
    λ w j there. all w j (in_to (w, j) d.intents (without_in u (w, j) d.intents (in_from (w, j) (without_uid u d.intents) there)))

each_in_part : (P : Uid → Type 0) (which : Uid → Bool) (w : Work) (d : Disk) → EachRecord P d.intents →
    EachRecord P (let x = in_part which w d in x.intents)
each_in_part P which Look d all = all
each_in_part P which (PutInc i) d all = all
each_in_part P which (Prepare r u states) d all = all
each_in_part P which (Commit role.Store u) d all = all
each_in_part P which (Commit role.Names u) d all = all
each_in_part P which (Abort r u) d all = all
each_in_part P which (PutIntent u i) d all = all
each_in_part P which (RemoveIntent u) d all = all

each_stopped : (P : Uid → Type 0) (how : Stop) (w : Work) (d : Disk) → PutsOne P w → EachRecord P d.intents →
    EachRecord P (let x = stopped how w d in x.intents)
each_stopped P Before w d its all = all
each_stopped P After w d its all = each_worked P w d its all
each_stopped P (InPart which) w d its all = each_in_part P which w d all

-- ---- one work of a walk

lined_puts : (k : ℕ) (B : Book) (w : Work) → IsLined k B (Do w) → PutsOne (IsCalled B k) w
lined_puts k B Look is = tt
lined_puts k B (PutInc i) is = tt
lined_puts k B (Prepare r u states) is = tt
lined_puts k B (Commit r u) is = tt
lined_puts k B (Abort r u) is = tt
lined_puts k B (PutIntent u i) is = is
lined_puts k B (RemoveIntent u) is = tt

decided_puts : (V : Book) (w : Work) → Puts V (Do w) → PutsOne (λ u. is_decided V u ≡ true) w
decided_puts V Look is = tt
decided_puts V (PutInc i) is = tt
decided_puts V (Prepare r u states) is = tt
decided_puts V (Commit r u) is = tt
decided_puts V (Abort r u) is = tt
decided_puts V (PutIntent u i) is = is
decided_puts V (RemoveIntent u) is = tt

inc_worked : (k : ℕ) (B : Book) (w : Work) (d : Disk) → IsLined k B (Do w) → (let x = worked w d in x.inc) ≡ d.inc
inc_worked k B Look d is = refl
inc_worked k B (PutInc i) d is = absurd is
inc_worked k B (Prepare role.Store u states) d is = refl
inc_worked k B (Prepare role.Names u states) d is = refl
inc_worked k B (Commit role.Store u) d is = refl
inc_worked k B (Commit role.Names u) d is = refl
inc_worked k B (Abort role.Store u) d is = refl
inc_worked k B (Abort role.Names u) d is = refl
inc_worked k B (PutIntent u i) d is = refl
inc_worked k B (RemoveIntent u) d is = refl

pub inc_in_part : (which : Uid → Bool) (w : Work) (d : Disk) → (let x = in_part which w d in x.inc) ≡ d.inc
inc_in_part which Look d = refl
inc_in_part which (PutInc i) d = refl
inc_in_part which (Prepare r u states) d = refl
inc_in_part which (Commit role.Store u) d = refl
inc_in_part which (Commit role.Names u) d = refl
inc_in_part which (Abort r u) d = refl
inc_in_part which (PutIntent u i) d = refl
inc_in_part which (RemoveIntent u) d = refl

inc_stopped : (k : ℕ) (B : Book) (how : Stop) (w : Work) (d : Disk) → IsLined k B (Do w) → (let x = stopped how w d in x.inc) ≡ d.inc
inc_stopped k B Before w d is = refl
inc_stopped k B After w d is = inc_worked k B w d is
inc_stopped k B (InPart which) w d is = inc_in_part which w d

-- ---- all of it

-- What holds while node k works: the lines are right, the others know the book and are at home, and so for messages and labels.
pub record Base (k : ℕ) (B : Book) (M : Seen) : Type 0 where
  pub is : book M.lines ≡ B
  pub right : AreRight new_book M.lines
  pub others : (j : ℕ) (n : Node) → (j ≡ k → ⊥) → M.nodes j ≡ Some n → KnowsNode B j n
  pub homes : (j : ℕ) (n : Node) (t : Parts) → (j ≡ k → ⊥) → M.nodes j ≡ Some n → n.live ≡ Some t → t.coord.tree.node ≡ j
  pub posts : (p : Post) → seen.In p M.sent → Claims B p.message
  pub labels : AllByRecursion (IsGiven M.labels) B.acts
  pub begun : AreBegun M.labels B.acts

module _ (e k : ℕ) where
  -- lines at which nobody looks
  pub base_quiet : (B : Book) (M : Seen) (bs : List Body) → AreQuiet bs → Base k B M → Base k B (said e bs M)
  base_quiet B M bs quiet b = record {
    is = book_more new_book M.lines (numbered e bs) ∙ quiet_book (book M.lines) e bs quiet ∙ b.is;
    right = right_more new_book M.lines (numbered e bs) b.right (quiet_lines (book M.lines) e bs quiet);
    others = b.others;
    homes = b.homes;
    posts = b.posts;
    labels = b.labels;
    begun = b.begun;
  }

  pub base_posted : (B : Book) (M : Seen) (to : ℕ) (m : Message) → Claims B m → Base k B M →
      Base k B (posted (record { from = k; to = to; message = m }) M)
  base_posted B M to m c b = record {
    is = b.is;
    right = b.right;
    others = b.others;
    homes = b.homes;
    posts = λ p there. ⊎_elim (λ same. subst (λ (q : Post). Claims B q.message) same c) (λ old. b.posts p old) there;
    labels = b.labels;
    begun = b.begun;
  }

  -- one line; labels are given for what is there after it
  pub base_said : (B : Book) (M : Seen) (l : Body) → Right B l → IsAbout k B l →
      AllByRecursion (IsGiven M.labels) (let V = turned B l in V.acts) → Base k B M → Base k (turned B l) (said e (l ∷ []) M)
  base_said B M l right about labels b = record {
    is = book_more new_book M.lines (numbered e (l ∷ [])) ∙ ap (λ X. turned X l) b.is;
    right = right_more new_book M.lines (numbered e (l ∷ [])) b.right (subst (λ X. Right X l) (sym b.is) right, tt);
    others = λ j n other is. node_apart k B (turned B l) (apart_turn k B l right about) (later_turn B l) (λ t roots away ties.
        ties_turn k B t roots away l right about ties) j other n (λ t up. b.homes j n t other is up) (b.others j n other is);
    homes = b.homes;
    posts = λ p there. claims_later B (turned B l) (later_turn B l) p.message (b.posts p there);
    labels = labels;
    begun = λ q g is. let x = b.begun q g is in let still = apart_turn k B l right about in (x.0, still.acts (name q) x.0 x.1, x.2);
  }

-- all nodes, with this one
pub all_written : (k : ℕ) (B : Book) (d : Disk) (live : Option Parts) (M : Seen) → Base k B M →
    KnowsNode B k (record { number = k; disk = d; live = live }) → IsWritten (at k d live M)
all_written k B d live M b its = record {
  right = b.right;
  nodes = λ j n is. subst (λ X. KnowsNode X j n) (sym b.is) (by j n (j == k) refl is);
  posts = λ p there. subst (λ X. Claims X p.message) (sym b.is) (b.posts p there);
  labels = subst (λ (X : Book). AllByRecursion (IsGiven M.labels) X.acts) (sym b.is) b.labels;
  begun = subst (λ (X : Book). AreBegun M.labels X.acts) (sym b.is) b.begun;
}
  where
    x : Node
    x = record { number = k; disk = d; live = live }

    by : (j : ℕ) (n : Node) (t : Bool) → (j == k) ≡ t → cond t (Some x) (M.nodes j) ≡ Some n → KnowsNode B j n
    by j n true at is = let same : x ≡ n = cc in subst (KnowsNode B j) same (subst (λ h. KnowsNode B h x) (sym (eqb-true j k at)) its)
    by j n false apart is = b.others j n (λ same. never (same_number k) (ap (λ h. h == k) (sym same) ∙ apart)) is

-- what was known of this node, and of all others
pub base_of : (k : ℕ) (d : Disk) (live : Option Parts) (M : Seen) → IsWritten (at k d live M) →
    ((j : ℕ) (n : Node) (t : Parts) → (j ≡ k → ⊥) → M.nodes j ≡ Some n → n.live ≡ Some t → t.coord.tree.node ≡ j) → Base k (book M.lines) M
base_of k d live M w homes = record {
  is = refl;
  right = w.right;
  others = λ j n other is.
      w.nodes j n ((λ i. cond (other_number j k other i) (Some (record { number = k; disk = d; live = live })) (M.nodes j)) ∙ is);
  homes = homes;
  posts = w.posts;
  labels = w.labels;
  begun = w.begun;
}

pub its_own : (k : ℕ) (d : Disk) (live : Option Parts) (M : Seen) → IsWritten (at k d live M) →
    KnowsNode (book M.lines) k (record { number = k; disk = d; live = live })
its_own k d live M w = w.nodes k (record { number = k; disk = d; live = live })
    (λ i. cond (same_number k i) (Some (record { number = k; disk = d; live = live })) (M.nodes k))

-- a node that is down, or goes down
pub down_written : (e k : ℕ) (B : Book) (d : Disk) (M : Seen) (count : ℕ) → Base k B M → EachRecord (MayBeFound B k) d.intents →
    Counts k d.inc count B → IsWritten (halted e k d M)
down_written e k B d M count b records counted = all_written k B d None (said e (body.Halted k ∷ []) M) halted_base
    (record { records = records; counts = (count, counted); live = λ t is. absurd (cc is) })
  where
    halted_base : Base k B (said e (body.Halted k ∷ []) M)
    halted_base = base_said e k B M (body.Halted k) tt tt b.labels b

-- a stop, whatever the node was
pub stop_written : (e k : ℕ) (d : Disk) (live : Option Parts) (M : Seen) → IsWritten (at k d live M) → ((j : ℕ) (n : Node) (t : Parts) →
    (j ≡ k → ⊥) → M.nodes j ≡ Some n → n.live ≡ Some t → t.coord.tree.node ≡ j) → IsWritten (halted e k d M)
stop_written e k d live M w homes = let o = its_own k d live M w in by live o.counts
  where
    by : (l : Option Parts) → Remembers (book M.lines) k d.inc l → IsWritten (halted e k d M)
    by None c = let o = its_own k d live M w in down_written e k (book M.lines) d M c.0 (base_of k d live M w homes) o.records c.1
    by (Some t) c = let o = its_own k d live M w in
        down_written e k (book M.lines) d M (length t.coord.tree.branches) (base_of k d live M w homes) o.records c

-- ---- the walk

module _ (e k : ℕ) (v : Parts) (V : Book) (sane : Sane V) (inc : ℕ) (counted : Counts k inc (length v.coord.tree.branches) V)
    (knows : Knows V v.coord) (calls : Calls V v.coord) (tops : KnowsTops v.coord) where
  -- a record of a top that is decided at the end may be found before
  kept_yet : (B : Book) → Later B V → (u : Uid) → is_decided V u ≡ true → is_on B.aborted u ≡ false
  kept_yet B later u is = by (is_on B.aborted u) refl
    where
      by : (x : Bool) → is_on B.aborted u ≡ x → x ≡ false
      by true on = never (later.aborted u on) (sane.kept u is)
      by false on = refl

  may_be : (B : Book) → Later B V → (d : Disk) → EachRecord (IsCalled B k) d.intents → EachRecord (λ u. is_decided V u ≡ true) d.intents →
      EachRecord (MayBeFound B k) d.intents
  may_be B later d called fin u i there = let c = called u i there in
      record { here = c.0; called = c.1; kept = kept_yet B later u (fin u i there) }

  pub written_walk : (es : List Effect) (d : Disk) (M : Seen) (B : Book) → Base k B M → AllByRecursion (IsGiven M.labels) V.acts →
      after B es ≡ V → AreLined k B es → AllByRecursion (Puts V) es → EachRecord (IsCalled B k) d.intents →
      EachRecord (λ u. is_decided V u ≡ true) d.intents → d.inc ≡ inc
      → Walks IsWritten e k es (Up IsWritten k v) d M
  written_walk [] d M B b given end lined puts called fin same = all_written k V d (Some v) M (subst (λ X. Base k X M) end b) (record {
    records = λ u i there. let c = called u i there in
        record { here = c.0; called = subst (λ (X : Book). is_on X.called u ≡ true) end c.1; kept = sane.kept u (fin u i there) };
    counts = subst (λ j. Counts k j (length v.coord.tree.branches) V) (sym same) counted;
    live = λ t is. let one : v ≡ t = cc is in
        subst (λ (x : Parts). KnowsUp V d.intents x.coord) one (record { knows = knows; calls = calls; tops = tops; found = fin });
  })
  written_walk (Do w ∷ es) d M B b given end lined puts called fin same = (
    λ how.
        let c = stopped how w d in
        let later = subst (Later B) end (later_after B es) in
        down_written e k B c M (length v.coord.tree.branches) b
        (may_be B later c (each_stopped (IsCalled B k) how w d (lined_puts k B w lined.0) called)
        (each_stopped (λ u. is_decided V u ≡ true) how w d (decided_puts V w puts.0) fin))
        (later.acts k c.inc (length v.coord.tree.branches)
        (subst (λ j. Counts k j (length v.coord.tree.branches) V) (sym (inc_stopped k B how w d lined.0 ∙ same)) counted)),
    written_walk es (worked w d) M B b given end lined.1 puts.1 (each_worked (IsCalled B k) w d (lined_puts k B w lined.0) called)
        (each_worked (λ u. is_decided V u ≡ true) w d (decided_puts V w puts.0) fin) (inc_worked k B w d lined.0 ∙ same),
  )
  written_walk (Say l ∷ es) d M B b given end lined puts called fin same =
      let W = turned B l in
      let to_end = subst (Later W) end (later_after W es) in
      let up_to = later_turn B l in
      written_walk es d (said e (l ∷ []) M) W (base_said e k B M l lined.0.0 lined.0.1 (to_end.given M.labels given) b) given end lined.1
      puts.1 (λ u i there. let c = called u i there in (c.0, up_to.called u c.1)) fin same
  written_walk (Send to m ∷ es) d M B b given end lined puts called fin same = λ more quiet.
      let p : Post = record { from = k; to = to; message = m } in
      written_walk es d (said e more (posted p M)) B (base_quiet e k B (posted p M) more quiet (base_posted e k B M to m lined.0 b)) given
      end lined.1 puts.1 called fin same
