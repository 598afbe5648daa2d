-- Each handler keeps that calls and includes are of objects of the header, and includes of its nodes.
use Rattle.arj_law_parts.proofs.Words
use Words.{◌≡◌, ◌≢◌, ◌+◌, ◌==◌, ◌∙◌, ◌++◌, eqb-true, ⊎_elim, ℕ, Bool, true, false, cond, List, [], ◌∷◌, Option, Some, None, refl}
use Words.{sym, ap, subst, inl, inr, is_some, AllByRecursion, list_all, list_any, and_parts, or_cases, In as Listed, Body}
use Words.{Header, Kind, Label, Line, Message, Op, again_all, begin_action, Goal, Include, Run, Disk, Do, Effect, Say, Send, stopped}
use Words.{worked, tick_outs, Parts, Took, handle, with_coord, Input, Node, acts as acts_of, class_at, lacks_op}
use Words.{parent_of, parts_in, refusal_up, restart_outs, numbered, Seen, Coord, is_serial}
use Words.body
use Words.commit
use Words.input
use Rattle.arj_law_serial.proofs.Terms
use Terms.{IsAtStarts, first_up}
use Terms.{Act, Placed, acts_after, put, read, Said, said_of, Inclusion, included, included_of, Action, AnswersWaiting, BindsAreKnown}
use Terms.{answers_fit, binds_keep, all_append, IsGood, IsGoodOf, good_coord, it, other_number, same_number, is_act, AreQuiet, In, at}
use Terms.{given, is_quiet_line, posted, said as said_lines, up, Up, Walks, halted, walks_both, HasObject, Place, IsCalled, IsIncluded}
use Terms.{LinesOf, SayOf, SaysOf, UsesOf, WaitFor}
use Rattle.arj_law_parts.proofs.moves.Happens.{keeps_asked}
use Rattle.arj_law_parts.specs.moves.Keeps.{AsksNode, KeepsAsked}
use Rattle.arj_law_serial.proofs.whole
use whole.Called.{found_object, uses_acked, uses_acts, uses_again, uses_begun, uses_heard, wait_acked, wait_acts, wait_again, wait_begin}
use whole.Called.{wait_heard, wait_new}
use whole.CalledSays.{acts_say, marks_say, message_fine, message_says, plain_says, restart_fine, tick_fine}
use whole.CoordCases.{Acks, Asks, CoordCase, Heard, OfParts, coord_case}
use Rattle.arj_law_serial.specs.whole.Called.{CallsAreOfHeader, CallsOf, IsOfHeader}

some_is : {A : Type 0} {a b : A} → Some a ≡ Some b → a ≡ b
some_is {A} {a} {b} is = let k : ◌≡◌ {A = Option A} (Some a) (Some b) = is in cc

none_at : {A P : Type 0} {o : Option A} {x : A} → o ≡ None → o ≡ Some x → P
none_at {A} {P} {o} {x} none is = let no_way : ◌≡◌ {A = Option A} None (Some x) = sym none ∙ is in absurd (cc no_way)

module _ (P : ℕ → Goal → Type 0) (O : ℕ → Type 0) where
  -- what is kept of a coordinator
  abbrev AsksOf : Coord → Type 0
  AsksOf c = WaitFor P c × UsesOf O c.tree

  abbrev Fine : List Effect → Type 0
  Fine outs = AllByRecursion (SayOf (SaysOf P)) outs

  -- ---- lines of others

  quiet_of : (b : Body) → is_quiet_line b ≡ true → SaysOf P b
  quiet_of (body.Ok l x o a) is = absurd (cc is)
  quiet_of (body.Includes l x n) is = absurd (cc is)
  quiet_of b is = tt

  lines_of : (e : ℕ) (bs : List Body) → ((b : Body) → is_quiet_line b ≡ true → SaysOf P b) → AreQuiet bs → LinesOf P (numbered e bs)
  lines_of e [] each quiet = tt
  lines_of e (b ∷ bs) each quiet = let p = and_parts (is_quiet_line b) (list_all is_quiet_line bs) quiet in
      (each b p.0, lines_of e bs each p.1)

  more_lines : (e : ℕ) (bs : List Body) (lines : List Line) → LinesOf P (numbered e bs) → LinesOf P lines →
      LinesOf P (lines ++ numbered e bs)
  more_lines e bs lines new old = all_append (λ (l : Line). SaysOf P l.body) lines (numbered e bs) old new

  -- ---- one node apart from the others

  abbrev Others : ℕ → Seen → Type 0
  Others k M = (j : ℕ) (n : Node) (t : Parts) → (j ≡ k → ⊥) → M.nodes j ≡ Some n → n.live ≡ Some t → AsksOf t.coord

  others_of : (k : ℕ) (d : Disk) (live : Option Parts) (M : Seen) → CallsOf P O (at k d live M) → Others k M
  others_of k d live M all j n t apart is live_is = all.works j n t
      ((λ i. cond (other_number j k apart i) (Some (record { number = k; disk = d; live = live })) (M.nodes j)) ∙ is) live_is

  own_of : (k : ℕ) (d : Disk) (t : Parts) (M : Seen) → CallsOf P O (up k d t M) → AsksOf t.coord
  own_of k d t M all = all.works k (record { number = k; disk = d; live = Some t }) t
      (λ i. cond (same_number k i) (Some (record { number = k; disk = d; live = Some t })) (M.nodes k)) refl

  back : (k : ℕ) (d : Disk) (live : Option Parts) (M : Seen) → ((t : Parts) → live ≡ Some t → AsksOf t.coord) → Others k M →
      LinesOf P M.lines → CallsOf P O (at k d live M)
  back k d live M its o lines = record { works = λ j n t is live_is. by j n t (j == k) refl is live_is; lines = lines }
    where
      by : (j : ℕ) (n : Node) (t : Parts) (b : Bool) → (j == k) ≡ b →
          cond b (Some (record { number = k; disk = d; live = live })) (M.nodes j) ≡ Some n → n.live ≡ Some t → AsksOf t.coord
      by j n t true same e live_is = let here : record { number = k; disk = d; live = live } ≡ n = some_is e in
          its t (ap (λ (z : Node). z.live) here ∙ live_is)
      by j n t false apart e live_is =
          o j n t (λ same. let no_way : true ≡ false = sym (ap (λ z. z == k) same ∙ same_number k) ∙ apart in cc no_way) e live_is

  down_so : (e k : ℕ) (d : Disk) (M : Seen) → Others k M → LinesOf P M.lines → CallsOf P O (halted e k d M)
  down_so e k d M o lines = let b = back k d None M (λ t is. none_at refl is) o lines in
      record { works = b.works; lines = more_lines e (body.Halted k ∷ []) M.lines (tt, tt) lines }

  walk : (e k : ℕ) (v : Parts) (outs : List Effect) (d : Disk) (M : Seen) → Fine outs → AsksOf v.coord → Others k M → LinesOf P M.lines →
      Walks (CallsOf P O) e k outs (Up (CallsOf P O) k v) d M
  walk e k v [] d M fine its o lines = back k d (Some v) M (λ t is. subst (λ (z : Parts). AsksOf z.coord) (some_is is) its) o lines
  walk e k v (Do w ∷ es) d M fine its o lines =
      (λ how. down_so e k (stopped how w d) M o lines, walk e k v es (worked w d) M fine.1 its o lines)
  walk e k v (Say b ∷ es) d M fine its o lines =
      walk e k v es d (said_lines e (b ∷ []) M) fine.1 its o (more_lines e (b ∷ []) M.lines (fine.0, tt) lines)
  walk e k v (Send to m ∷ es) d M fine its o lines = λ more quiet. walk e k v es d (said_lines e more (posted
      (record { from = k; to = to; message = m }) M)) fine.1 its o (more_lines e more M.lines (lines_of e more quiet_of quiet) lines)

  -- ---- a node of a good world

  module _ (begun : List Action) (e k : ℕ) (d : Disk) (t : Parts) (M : Seen) (bound_all : BindsAreKnown (up k d t M))
      (good : IsGoodOf begun (up k d t M)) (all : CallsOf P O (up k d t M)) where
    place : Place M.sent k t.coord
    place = let u = it e k d t M (begun, good) in record {
      actions = begun;
      begun = good.begun;
      good = good_coord e k d t M (begun, good);
      numbered = u.numbered;
      faithful = u.faithful;
      binds = bound_all.nodes k (record { number = k; disk = d; live = Some t }) t
          (λ i. cond (same_number k i) (Some (record { number = k; disk = d; live = Some t })) (M.nodes k)) refl;
    }

    own : AsksOf t.coord
    own = own_of k d t M all

    walk_on : (v : Parts) (outs : List Effect) → Fine outs → AsksOf v.coord → Walks (CallsOf P O) e k outs (Up (CallsOf P O) k v) d M
    walk_on v outs fine its = walk e k v outs d M fine its (others_of k d (Some t) M all) all.lines

    pub message_walk : (from : ℕ) (m : Message) (v : Parts) (outs : List Effect) → In (record { from = from; to = k; message = m }) M.sent →
        handle k d t from m ≡ Took v outs → Walks (CallsOf P O) e k outs (Up (CallsOf P O) k v) d M
    message_walk from m v outs there is = walk_on v outs
        (message_fine (SaysOf P) (plain_says P) k d t v from m outs is (λ a r q s of. message_says P t.coord own.0 from a r q s (answers_fit
        begun e k d t M good bound_all from m there a r of)) (λ a r q c of found now. marks_say P q (commit.answered from c r).marks))
        (by (coord_case k d t v from m outs is))
      where
        by : CoordCase d t from m v outs → AsksOf v.coord
        by (OfParts mine same plain sent_to) = subst AsksOf (sym same) own
        by (Asks u query same outs_are) = subst AsksOf (sym same) own
        by (Heard a r of same outs_are) = subst AsksOf same (
          wait_heard P M.sent k t.coord place own.0 from a r d.intents fits,
          uses_heard O M.sent k t.coord place own.1 from a r d.intents fits,
        )
          where
            fits : AnswersWaiting from a r t.coord
            fits = answers_fit begun e k d t M good bound_all from m there a r of
        by (Acks u which same outs_are) = subst AsksOf same
            (wait_acked P M.sent k t.coord place own.0 from u d.intents, uses_acked O M.sent k t.coord place own.1 from u d.intents)

    pub act_walk : (hd : Header) (i : Input) → ((x : ℕ) (o : Op) → is_some (class_at x hd) ≡ true → lacks_op o (class_at x hd) ≡ false →
        P x (Run o)) → ((l : Label) (x s : ℕ) → i ≡ input.Include l x s → is_some (class_at x hd) ≡ true → P x (Include s)) →
        ((x : ℕ) → is_some (class_at x hd) ≡ true → O x) → is_act i ≡ true → refusal_up hd i t.coord ≡ None → Walks (CallsOf P O) e k
        (let r = acts_of i d.intents t.coord in r.outs) (Up (CallsOf P O) k (with_coord t (acts_of i d.intents t.coord).part)) d M
    act_walk hd i runs includes of is free = let r = acts_of i d.intents t.coord in
        walk_on (with_coord t r.part) r.outs (acts_say P t.coord own.0 i d.intents other) (
          wait_acts P M.sent k t.coord place own.0 hd i d.intents runs includes free other,
          uses_acts O M.sent k t.coord place own.1 hd i d.intents of free other,
        )
      where
        other : (l : Label) (how : Kind) (parent : Option Label) → i ≢ input.Begin l how parent
        other l how parent same = let no_way : false ≡ true = sym (ap is_act same) ∙ is in cc no_way

    pub tick_walk : Walks (CallsOf P O) e k (tick_outs (record { number = k; disk = d; live = Some t }) t)
        (Up (CallsOf P O) k (with_coord t (again_all t.coord.doings t.coord).part)) d M
    tick_walk = walk_on (with_coord t (again_all t.coord.doings t.coord).part) (tick_outs (record { number = k; disk = d; live = Some t })
        t) (tick_fine (SaysOf P) (plain_says P) (record { number = k; disk = d; live = Some t }) t)
        (wait_again P M.sent k t.coord place own.0, uses_again O M.sent k t.coord place own.1)

  first_so : (hd : Header) → IsAtStarts hd (CallsOf P O)
  first_so hd st formed = record {
    works = λ k n t is live.
        subst (λ (z : Parts). AsksOf z.coord) (first_up hd st k n t is live) (wait_new P k (st.incs k + 1) [], tt);
    lines = tt;
  }

-- each handler keeps it, beside good nodes and known Binds
pub calls_keep : (hd : Header) → KeepsAsked hd (λ M. (IsGood M × BindsAreKnown M) × CallsAreOfHeader hd M)
calls_keep hd = record {
  quiet = λ e bs M quiet g. (
    base.quiet e bs M quiet g.0,
    record {
      works = (let p = g.1 in p.works);
      lines = more_lines P O e bs M.lines (lines_of P O e bs (quiet_of P O) quiet) (let p = g.1 in p.lines);
    },
  );
  stop = λ e k d live M g. (base.stop e k d live M g.0, down_so P O e k d M (others_of P O k d live M g.1) (let p = g.1 in p.lines));
  message = λ e k d t v from m outs M g there meant is. beside e k outs v d M (base.message e k d t v from m outs M g.0 there meant is)
      (message_walk P O g.0.0.0 e k d t M g.0.1 g.0.0.1 g.1 from m v outs there is);
  act = λ e k d t i M is asks free g. let did = acts_of i d.intents t.coord in
      beside e k did.outs (with_coord t did.part) d M (base.act e k d t i M is asks free g.0)
      (act_walk P O g.0.0.0 e k d t M g.0.1 g.0.0.1 g.1 hd i (λ x o there fits. (found_object hd x there, tt, fits))
      (λ l x s same there. (found_object hd x there, subst (AsksNode hd) same asks, tt)) (found_object hd) is free);
  begin = λ e k d t l how parent M new may free g.
      let did = begin_action l how parent (parent_of parent t.coord) t.coord in
      let N = given l (record { node = k; serial = is_serial how }) M in
      beside e k did.outs (with_coord t did.part) d N (base.begin e k d t l how parent M new may free g.0)
      (walk P O e k (with_coord t did.part) did.outs d N (tt, tt) (let o = own_of P O k d t M g.1 in
      (wait_begin P l how parent t.coord o.0, uses_begun O how (parent_of parent t.coord) t.coord.tree o.1))
      (others_of P O k d (Some t) M g.1) (let p = g.1 in p.lines));
  tick = λ e k d t M g. beside e k (tick_outs (record { number = k; disk = d; live = Some t }) t) (with_coord t
      (again_all t.coord.doings t.coord).part) d M (base.tick e k d t M g.0) (tick_walk P O g.0.0.0 e k d t M g.0.1 g.0.0.1 g.1);
  restart = λ e k d M g. beside e k (restart_outs hd k (d.inc + 1) d) (parts_in k (d.inc + 1) d) d M (base.restart e k d M g.0)
      (walk P O e k (parts_in k (d.inc + 1) d) (restart_outs hd k (d.inc + 1) d) d M (restart_fine (SaysOf P) (plain_says P) hd k
      (d.inc + 1) d) (wait_new P k (d.inc + 1) d.intents, tt) (others_of P O k d None M g.1) (let p = g.1 in p.lines));
  first = λ st formed. (base.first st formed, first_so P O hd st formed);
}
  where
    P : ℕ → Goal → Type 0
    P = IsOfHeader hd

    O : ℕ → Type 0
    O = HasObject hd

    G : Seen → Type 0
    G M = IsGood M × BindsAreKnown M

    base : KeepsAsked hd G
    base = keeps_asked hd G (binds_keep hd)

    beside : (e k : ℕ) (outs : List Effect) (v : Parts) (d : Disk) (M : Seen) → Walks G e k outs (Up G k v) d M → Walks (CallsOf P O) e k
        outs (Up (CallsOf P O) k v) d M → Walks (λ N. G N × CallsAreOfHeader hd N) e k outs (Up (λ N. G N × CallsAreOfHeader hd N) k v) d M
    beside e k outs v d M a b = walks_both G (CallsOf P O) e k outs (Up G k v) (Up (CallsOf P O) k v) d M a b

-- ---- what follows

-- an object of which a call was answered is one of the header
pub called_there : (hd : Header) (x : ℕ) (lines : List Line) → LinesOf (IsOfHeader hd) lines → IsCalled x lines → HasObject hd x
called_there hd x lines all called = by [] 0 lines all called
  where
    one : (acts : List Act) (n : ℕ) (b : Body) (rest : List (Placed Said)) → SaysOf (IsOfHeader hd) b →
        (list_any (λ (s : Placed Said). s.it.x == x) rest ≡ true → HasObject hd x) →
        list_any (λ (s : Placed Said). s.it.x == x) (put n (said_of acts b) rest) ≡ true → HasObject hd x
    one acts n (body.Ok l y o a) rest its later on = ⊎_elim (λ same. subst (HasObject hd) (eqb-true y x same) its.0) later
        (or_cases (y == x) (list_any (λ (s : Placed Said). s.it.x == x) rest) on)
    one acts n b rest its later on = later on

    by : (acts : List Act) (n : ℕ) (ls : List Line) → LinesOf (IsOfHeader hd) ls →
        list_any (λ (s : Placed Said). s.it.x == x) (read said_of acts n ls) ≡ true → HasObject hd x
    by acts n [] all on = absurd (cc on)
    by acts n (l ∷ ls) all on =
        one acts n l.body (read said_of (acts_after acts l.body) (n + 1) ls) all.0 (by (acts_after acts l.body) (n + 1) ls all.1) on

-- and so is one of which a store was included, which is a node of the header
pub included_there : (hd : Header) (lines : List Line) → LinesOf (IsOfHeader hd) lines → (i : Placed Inclusion) →
    Listed i (included lines) → IsIncluded hd i.it
included_there hd lines all i there = by [] 0 lines all there
  where
    one : (acts : List Act) (n : ℕ) (b : Body) (rest : List (Placed Inclusion)) → SaysOf (IsOfHeader hd) b →
        (Listed i rest → IsIncluded hd i.it) → Listed i (put n (included_of acts b) rest) → IsIncluded hd i.it
    one acts n (body.Includes l y m) rest its later (inl same) = subst (λ (j : Placed Inclusion). IsIncluded hd j.it) same its
    one acts n (body.Includes l y m) rest its later (inr old) = later old
    one acts n b rest its later on = later on

    by : (acts : List Act) (n : ℕ) (ls : List Line) → LinesOf (IsOfHeader hd) ls → Listed i (read included_of acts n ls) →
        IsIncluded hd i.it
    by acts n [] all on = absurd on
    by acts n (l ∷ ls) all on =
        one acts n l.body (read included_of (acts_after acts l.body) (n + 1) ls) all.0 (by (acts_after acts l.body) (n + 1) ls all.1) on
