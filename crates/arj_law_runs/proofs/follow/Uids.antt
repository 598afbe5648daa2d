-- Each node's incarnation is that of the journal, and it has begun as many actions in it as the journal has.
use Rattle.arj_law_parts.proofs.Words
use Words.{◌≡◌, ◌∙◌, ◌+◌, ◌≤◌, ◌==◌, ◌&&◌, ℕ, suc, Bool, true, false, cond, List, [], ◌∷◌, ◌++◌, length, filter, map, refl, sym, ap, subst}
use Words.{arith}
use Words.{inl, inr, eqb-true, if◌then◌else◌, Option, Some, None, nat_tests, append-nil, append_assoc, length-append, option_map}
use Words.{AllByRecursion, and_parts, list_all, In, Body, Line}
use Words.{Header, Kind, Label, Message, name, again_all, begin_action, began_line, Disk, Do, Effect, Say, Send, Look, PutInc, Stop, Before}
use Words.{After, InPart}
use Words.{Work, worked, stopped, Parts, Handled, Took, Void, handle, holders, is_meant, parent_of, parts_in, query_about, restart_outs}
use Words.{tick_outs}
use Words.{tolds_again, tolds_again_own, acts_own, again_own, with_coord, Input, Node, acts as does, refusal_up, next_uid, numbered, Seen}
use Words.{is_serial, all_both}
use Words.{node_by, numbers_to, at_place, see, world_from, Start}
use Words.body
use Words.input
use Rattle.arj_law_runs.proofs.Terms
use Terms.{Act, acts, acts_after, at, down, given, posted, said, up, Up, Walks, halted, walks_both, Keeps, is_act, AreQuiet, Book, book}
use Terms.{turned}
use Terms.{IsKept, same_acked, same_acts, same_again, same_heard}
use Terms.seen
use Rattle.arj_law_parts.proofs.steps.Still.{Still, coord_good, is_still, map_good, outs_of, says_still, taken_good}
use Rattle.arj_law_parts.specs.moves.Seen.{is_quiet_line}
use Rattle.arj_law_parts.specs.steps.Spoken.{SaidIn}
use Rattle.arj_law_runs.proofs.follow.Halts.{KnowsAll, NoInc, behind, behind_still, counted, inc_same, lined_incs, longer, halts_keep}
use Rattle.arj_law_runs.proofs.journal.{Owners.acts_more, Paths.none_begins, Walks.inc_in_part}
use Rattle.arj_law_runs.proofs.journal.Runs.{act_turns, message_turns, rest_goes, tick_turns}
use Rattle.arj_law_runs.proofs.kept.{Handled.it, Parted.IsLeft, Parted.coord_kept, Starts.first_at, Starts.live_first, Walked.other_number}
use Rattle.arj_law_runs.proofs.kept.{Walked.same_number}
use Rattle.arj_law_runs.specs.journal.Knows.{after}
use Rattle.arj_model.specs.Actions as model
use Rattle.arj_model.specs.Actions.{begun_of}
use Rattle.arj_model.specs.Refusals.{inc_from, inc_step, incarnation}

-- how many of these actions began at the node in this incarnation
abbrev pub count_of : ℕ → ℕ → List Act → ℕ
count_of k i xs = length (filter (λ (a : Act). ((let u = a.uid in u.node) == k) && ((let u = a.uid in u.inc) == i)) xs)

-- The node is in no earlier incarnation than by the journal; while it is up it is in that one, with as many actions.
abbrev pub IsNext : Seen → ℕ → Node → Type 0
IsNext M j n = (incarnation M.start M.lines j ≤ (let d = n.disk in d.inc))
    × ((t : Parts) → n.live ≡ Some t → (incarnation M.start M.lines j ≡ (let d = n.disk in d.inc))
    × (count_of j (let d = n.disk in d.inc) (acts M.lines) ≡ length t.coord.tree.branches))

abbrev pub KnowsUids : Seen → Type 0
KnowsUids M = (j : ℕ) (n : Node) → M.nodes j ≡ Some n → IsNext M j n

-- ---- lines that change neither

abbrev IsFlat : Body → Type 0
IsFlat b = (begun_of b ≡ None) × ((j i : ℕ) → inc_step j b i ≡ i)

inc_on : (j i : ℕ) (ls : List Line) (l : Line) → inc_from j i (ls ++ l ∷ []) ≡ inc_step j l.body (inc_from j i ls)
inc_on j i [] l = refl
inc_on j i (m ∷ ls) l = inc_on j (inc_step j m.body i) ls l

flat_lines : (e : ℕ) (bs : List Body) (ls : List Line) → AllByRecursion IsFlat bs → (acts (ls ++ numbered e bs) ≡ acts ls)
    × ((j i : ℕ) → inc_from j i (ls ++ numbered e bs) ≡ inc_from j i ls)
flat_lines e [] ls all = (ap acts (append-nil ls), λ j i. ap (inc_from j i) (append-nil ls))
flat_lines e (b ∷ bs) ls all =
    let l : Line = record { event = e; body = b } in
    let rest = flat_lines e bs (ls ++ l ∷ []) all.1 in
    let same : ls ++ numbered e (b ∷ bs) ≡ (ls ++ l ∷ []) ++ numbered e bs = sym (append_assoc ls (l ∷ []) (numbered e bs)) in (
      ap acts same ∙ rest.0 ∙ acts_more [] ls (l ∷ []) ∙ ap (model.numbered (acts ls)) all.0.0,
      λ j i. ap (inc_from j i) same ∙ rest.1 j i ∙ inc_on j i ls l ∙ all.0.1 j (inc_from j i ls),
    )

quiet_flat : (b : Body) → is_quiet_line b ≡ true → IsFlat b
quiet_flat (body.Began l k u p) is = absurd (cc is)
quiet_flat (body.Up n i) is = absurd (cc is)
quiet_flat b is = (refl, λ j i. refl)

quiet_all : (bs : List Body) → AreQuiet bs → AllByRecursion IsFlat bs
quiet_all [] all = tt
quiet_all (b ∷ bs) all = let p = and_parts (is_quiet_line b) (list_all is_quiet_line bs) all in (quiet_flat b p.0, quiet_all bs p.1)

body_flat : (b : Body) (B : Book) → is_still b ≡ true → (let V = turned B b in V.acts) ≡ B.acts → IsFlat b
body_flat (body.Began l k u p) B is at = absurd (longer _ B.acts at)
body_flat (body.Up n i) B is at = absurd (cc is)
body_flat b B is at = (refl, λ j i. refl)

outs_flat : (B : Book) (es : List Effect) → Still es → (let V = after B es in V.acts) ≡ B.acts → AllByRecursion (SaidIn IsFlat) es
outs_flat B [] all at = tt
outs_flat B (Say b ∷ es) all at =
    let p = and_parts (is_still b) (list_all says_still es) all in
    let one = none_begins B b es B.acts refl at in
    (body_flat b B p.0 one, outs_flat (turned B b) es p.1 (at ∙ sym one))
outs_flat B (Send to m ∷ es) all at = (tt, outs_flat B es all at)
outs_flat B (Do w ∷ es) all at = (tt, outs_flat B es all at)

stopped_same : (how : Stop) (w : Work) (d : Disk) → NoInc (Do w) → (let x = stopped how w d in x.inc) ≡ d.inc
stopped_same Before w d free = refl
stopped_same After w d free = inc_same w d free
stopped_same (InPart which) w d free = inc_in_part which w d

-- ---- one node

module _ (k : ℕ) where
  abbrev Others : Seen → Type 0
  Others N = (j : ℕ) (n : Node) → (j ≡ k → ⊥) → N.nodes j ≡ Some n → IsNext N j n

  -- the node is in this incarnation, with so many actions
  abbrev Own : ℕ → ℕ → Seen → Type 0
  Own i c N = (incarnation N.start N.lines k ≡ i) × (count_of k i (acts N.lines) ≡ c)

  here : (d : Disk) (live : Option Parts) (M : Seen) → KnowsUids (at k d live M) → IsNext M k (record { number = k; disk = d; live = live })
  here d live M all = all k (record { number = k; disk = d; live = live })
      (λ i. cond (same_number k i) (Some (record { number = k; disk = d; live = live })) (M.nodes k))

  others : (d : Disk) (live : Option Parts) (M : Seen) → KnowsUids (at k d live M) → Others M
  others d live M all j n other is =
      all j n ((λ i. cond (other_number j k other i) (Some (record { number = k; disk = d; live = live })) (M.nodes j)) ∙ is)

  back : (d : Disk) (live : Option Parts) (N : Seen) → IsNext N k (record { number = k; disk = d; live = live }) → Others N →
      KnowsUids (at k d live N)
  back d live N its rest j n is = by (j == k) refl is
    where
      x : Node
      x = record { number = k; disk = d; live = live }

      same_place : (j == k) ≡ true → j ≡ k
      same_place e = eqb-true j k e

      by : (b : Bool) → (j == k) ≡ b → cond b (Some x) (N.nodes j) ≡ Some n → IsNext N j n
      by true same there = let one : x ≡ n = cc in subst (IsNext N j) one (subst (λ m. IsNext N m x) (sym (same_place same)) its)
      by false apart there =
          rest j n (λ same. let no_way : true ≡ false = sym (same_number k) ∙ ap (λ h. h == k) (sym same) ∙ apart in cc) there

  next_on : (e : ℕ) (bs : List Body) (N V : Seen) (j : ℕ) (n : Node) → V.start ≡ N.start → V.lines ≡ N.lines ++ numbered e bs →
      AllByRecursion IsFlat bs → IsNext N j n → IsNext V j n
  next_on e bs N V j n start lines flat its =
      let f = flat_lines e bs N.lines flat in
      let inc : incarnation V.start V.lines j ≡ incarnation N.start N.lines j
      = (λ i. incarnation (start i) (lines i) j) ∙ f.1 j (let s = N.start in s.incs j + 1) in
      let xs : acts V.lines ≡ acts N.lines = ap acts lines ∙ f.0 in (
        subst (λ i. i ≤ (let d = n.disk in d.inc)) (sym inc) its.0,
        λ t live. let r = its.1 t live in (inc ∙ r.0, ap (count_of j (let d = n.disk in d.inc)) xs ∙ r.1),
      )

  others_on : (e : ℕ) (bs : List Body) (N V : Seen) → V.nodes ≡ N.nodes → V.start ≡ N.start → V.lines ≡ N.lines ++ numbered e bs →
      AllByRecursion IsFlat bs → Others N → Others V
  others_on e bs N V nodes start lines flat rest j n other is =
      next_on e bs N V j n start lines flat (rest j n other ((λ i. (sym nodes) i j) ∙ is))

  own_on : (e i c : ℕ) (bs : List Body) (N V : Seen) → V.start ≡ N.start → V.lines ≡ N.lines ++ numbered e bs → AllByRecursion IsFlat bs →
      Own i c N → Own i c V
  own_on e i c bs N V start lines flat own =
      let f = flat_lines e bs N.lines flat in (
        (λ x. incarnation (start x) (lines x) k) ∙ f.1 k (let s = N.start in s.incs k + 1) ∙ own.0,
        ap (count_of k i) (ap acts lines ∙ f.0) ∙ own.1,
      )

  down_so : (e : ℕ) (d : Disk) (N : Seen) → incarnation N.start N.lines k ≤ d.inc → Others N → KnowsUids (halted e k d N)
  down_so e d N low rest =
      let V = said e (body.Halted k ∷ []) N in
      let flat : AllByRecursion IsFlat (body.Halted k ∷ []) = ((refl, λ j i. refl), tt) in
      back d None V (next_on e (body.Halted k ∷ []) N V k (record { number = k; disk = d; live = None }) refl refl flat
      (low, λ t no_way. absurd (cc no_way))) (others_on e (body.Halted k ∷ []) N V refl refl refl flat rest)

  up_so : (d : Disk) (t : Parts) (N : Seen) → Own d.inc (length t.coord.tree.branches) N → Others N → KnowsUids (up k d t N)
  up_so d t N own rest = back d (Some t) N (
    low,
    λ v live. (
      own.0,
      own.1 ∙ ap (λ (x : Parts). length x.coord.tree.branches)
          (one v live),
    ),
  ) rest
    where
      one : (v : Parts) → ◌≡◌ {A = Option Parts} (Some t) (Some v) → t ≡ v
      one v live = let same : t ≡ v = cc in same

      low : incarnation N.start N.lines k ≤ d.inc
      low = let same = own.0 in omega (arith, same)

  next_walk : (e : ℕ) (es : List Effect) (v : Parts) (d : Disk) (N : Seen) → AllByRecursion (SaidIn IsFlat) es → AllByRecursion NoInc es →
      Own d.inc (length v.coord.tree.branches) N → Others N → Walks KnowsUids e k es (Up KnowsUids k v) d N
  next_walk e [] v d N flat incs own rest = up_so d v N own rest
  next_walk e (Do w ∷ es) v d N flat incs own rest = (
    λ how. let same = own.0 in let stays = stopped_same how w d incs.0 in down_so e (stopped how w d) N (omega (arith, same, stays)) rest,
    next_walk e es v (worked w d) N flat.1 incs.1
        (subst (λ i. Own i (length v.coord.tree.branches) N) (sym (inc_same w d incs.0)) own) rest,
  )
  next_walk e (Say b ∷ es) v d N flat incs own rest =
      let V = said e (b ∷ []) N in
      next_walk e es v d V flat.1 incs.1 (own_on e d.inc (length v.coord.tree.branches) (b ∷ []) N V refl refl (flat.0, tt) own)
      (others_on e (b ∷ []) N V refl refl refl (flat.0, tt) rest)
  next_walk e (Send to m ∷ es) v d N flat incs own rest = λ more quiet.
      let V = said e more (posted (record { from = k; to = to; message = m }) N) in
      next_walk e es v d V flat.1 incs.1 (own_on e d.inc (length v.coord.tree.branches) more N V refl refl (quiet_all more quiet) own)
      (others_on e more N V refl refl refl (quiet_all more quiet) rest)

-- ---- handlers

abbrev pub KnowsNext : Seen → Type 0
KnowsNext M = KnowsAll M × KnowsUids M

both : (e k : ℕ) (outs : List Effect) (v : Parts) (d : Disk) (M : Seen) → Walks KnowsAll e k outs (Up KnowsAll k v) d M →
    Walks KnowsUids e k outs (Up KnowsUids k v) d M → Walks KnowsNext e k outs (Up KnowsNext k v) d M
both e k outs v d M a b = walks_both KnowsAll KnowsUids e k outs (Up KnowsAll k v) (Up KnowsUids k v) d M a b

module _ (e k : ℕ) (d : Disk) (t : Parts) (M : Seen) (all : KnowsNext (up k d t M)) where
  kept : IsKept (up k d t M)
  kept = all.0.0

  own : (c : ℕ) → c ≡ length t.coord.tree.branches → Own k d.inc c M
  own c same = let r = (here k d (Some t) M all.1).1 t refl in (r.0, r.1 ∙ sym same)

  message_next : (v : Parts) (from : ℕ) (m : Message) (outs : List Effect) → seen.In (record { from = from; to = k; message = m }) M.sent →
      is_meant t m ≡ true → handle k d t from m ≡ Took v outs → Walks KnowsUids e k outs (Up KnowsUids k v) d M
  message_next v from m outs there meant is =
      let g = message_turns e k d t M kept.0 kept.1 v from m outs there is in
      let still : Still outs = subst (λ (h : Handled). Still (outs_of h)) ((λ i. cond (meant i) (handle k d t from m) (Void [])) ∙ is)
      (taken_good k d t from m) in
      let count : length v.coord.tree.branches ≡ length t.coord.tree.branches
      = subst (IsLeft (λ c. length c.tree.branches ≡ length t.coord.tree.branches)) is
      (coord_kept (λ c. length c.tree.branches ≡ length t.coord.tree.branches) k d t from refl
      (λ a r. (same_heard from a r d.intents t.coord).count) (λ u. (same_acked from u d.intents t.coord).count) m) in
      next_walk k e outs v d M (outs_flat (book M.lines) outs still g.acts) (lined_incs k outs (book M.lines) g.lined)
      (own (length v.coord.tree.branches) count) (others k d (Some t) M all.1)

  act_next : (hd : Header) (i : Input) → is_act i ≡ true → refusal_up hd i t.coord ≡ None →
      let did = does i d.intents t.coord in Walks KnowsUids e k did.outs (Up KnowsUids k (with_coord t did.part)) d M
  act_next hd i is none =
      let did = does i d.intents t.coord in
      let g = act_turns e k d t M kept.0 kept.1 hd i is none in
      next_walk k e did.outs (with_coord t did.part) d M
      (outs_flat (book M.lines) did.outs (coord_good did.outs (acts_own i d.intents t.coord)) g.acts)
      (lined_incs k did.outs (book M.lines) g.lined)
      (own (length (let c = did.part in let x = c.tree in x.branches)) (same_acts i d.intents t.coord no_begin).count)
      (others k d (Some t) M all.1)
    where
      no_begin : (l : Label) (how : Kind) (parent : Option Label) → i ≡ input.Begin l how parent → ⊥
      no_begin l how parent same = let no_way : false ≡ true = ap is_act (sym same) ∙ is in absurd (cc no_way)

  tick_next : Walks KnowsUids e k (tick_outs (record { number = k; disk = d; live = Some t }) t)
      (Up KnowsUids k (with_coord t (again_all t.coord.doings t.coord).part)) d M
  tick_next =
      let outs = tick_outs (record { number = k; disk = d; live = Some t }) t in
      let r = again_all t.coord.doings t.coord in
      let g = tick_turns e k d t M kept.0 kept.1 in
      let still : Still outs = all_both says_still (r.outs ++ tolds_again t.coord.telling) (map query_about (holders d t))
      (all_both says_still r.outs (tolds_again t.coord.telling) (coord_good r.outs (again_own t.coord.doings t.coord))
      (coord_good (tolds_again t.coord.telling) (tolds_again_own t.coord.telling)))
      (map_good query_about (holders d t) (λ u. refl)) in
      next_walk k e outs (with_coord t r.part) d M (outs_flat (book M.lines) outs still g.acts) (lined_incs k outs (book M.lines) g.lined)
      (own (length (let c = r.part in let x = c.tree in x.branches)) (same_again t.coord.doings t.coord).count) (others k d
      (Some t) M all.1)

  -- an action begins
  begin_next : (l : Label) (how : Kind) (parent : Option Label) (N : Seen) → N.nodes ≡ M.nodes → N.start ≡ M.start → N.lines ≡ M.lines →
      let v = with_coord t (begin_action l how parent (parent_of parent t.coord) t.coord).part in
      KnowsUids (up k d v (said e (began_line l how (next_uid t.coord.tree) parent ∷ []) N))
  begin_next l how parent N nodes start lines = up_so k d v V own_now others_now
    where
      v : Parts
      v = with_coord t (begin_action l how parent (parent_of parent t.coord) t.coord).part

      b : Body
      b = began_line l how (next_uid t.coord.tree) parent

      line : Line
      line = record { event = e; body = b }

      V : Seen
      V = said e (b ∷ []) N

      new : Act
      new = record { id = length (acts M.lines); label = name l; kind = how; uid = next_uid t.coord.tree; parent = option_map name parent }

      acts_now : acts V.lines ≡ new ∷ acts M.lines
      acts_now = acts_more [] N.lines (line ∷ []) ∙ ap (λ ls. acts_after (acts ls) b) lines

      inc_now : (j : ℕ) → incarnation V.start V.lines j ≡ incarnation M.start M.lines j
      inc_now j = inc_on j (let s = N.start in s.incs j + 1) N.lines line ∙ (λ i. incarnation (start i) (lines i) j)

      its_node : (let u = new.uid in u.node) ≡ k
      its_node = let i = it e k d t M kept.0 in i.node

      its_inc : (let u = new.uid in u.inc) ≡ d.inc
      its_inc = let i = it e k d t M kept.0 in i.inc

      its_own : Own k d.inc (length t.coord.tree.branches) M
      its_own = own (length t.coord.tree.branches) refl

      counts : (j i : ℕ) (x : Bool) → (((let u = new.uid in u.node) == j) && ((let u = new.uid in u.inc) == i)) ≡ x →
          count_of j i (acts V.lines) ≡ (if x then suc (count_of j i (acts M.lines)) else count_of j i (acts M.lines))
      counts j i true is = ap (count_of j i) acts_now
          ∙ (λ y. length (cond (is y) (new ∷ rest) rest))
        where
          rest : List Act
          rest = filter (λ (a : Act). ((let u = a.uid in u.node) == j) && ((let u = a.uid in u.inc) == i)) (acts M.lines)
      counts j i false is = ap (count_of j i) acts_now
          ∙ (λ y. length (cond (is y) (new ∷ rest) rest))
        where
          rest : List Act
          rest = filter (λ (a : Act). ((let u = a.uid in u.node) == j) && ((let u = a.uid in u.inc) == i)) (acts M.lines)

      own_now : Own k d.inc (length v.coord.tree.branches) V
      own_now = (
        inc_now k ∙ its_own.0,
        counts k d.inc true ((λ i. ((let n = its_node i in n) == k) && ((let n = its_inc i in n) == d.inc))
            ∙ (λ i. same_number k i && same_number d.inc i))
            ∙ one (count_of k d.inc (acts M.lines)) (length t.coord.tree.branches) its_own.1
            ∙ sym (length-append t.coord.tree.branches _),
      )
        where
          one : (m n : ℕ) → m ≡ n → suc m ≡ n + 1
          one m n is = omega (arith, is)

      others_now : Others k V
      others_now j n other is =
          let was = others k d (Some t) M all.1 j n other ((λ i. (sym nodes) i j) ∙ is) in
          let i : ℕ = (let x = n.disk in x.inc) in
          let same : count_of j i (acts V.lines) ≡ count_of j i (acts M.lines)
          = counts j i false (λ y. (off y) && ((let u = new.uid in u.inc) == i)) in (
            subst (λ m. m ≤ i) (sym (inc_now j)) was.0,
            λ x live. let r = was.1 x live in (inc_now j ∙ r.0, same ∙ r.1),
          )
        where
          apart : (m n : ℕ) → (m ≡ n → ⊥) → (n == m) ≡ false
          apart m n differ = by (n == m) refl
            where
              by : (b : Bool) → (n == m) ≡ b → b ≡ false
              by true e = absurd (differ (sym (eqb-true n m e)))
              by false e = refl

          off : ((let u = new.uid in u.node) == j) ≡ false
          off = ap (λ m. m == j) its_node ∙ apart j k other

-- a restart
module _ (hd : Header) (e k : ℕ) (d : Disk) (M : Seen) (all : KnowsNext (down k d M)) where
  low : incarnation M.start M.lines k ≤ d.inc
  low = (here k d None M all.1).0

  restart_next : Walks KnowsUids e k (restart_outs hd k (d.inc + 1) d) (Up KnowsUids k (parts_in k (d.inc + 1) d)) d M
  restart_next =
      let rest = others k d None M all.1 in
      let g = rest_goes hd e k d M all.0.0.0 all.0.0.1 in
      let b = body.Up k (d.inc + 1) in
      let V = said e (b ∷ []) M in (
        λ how. down_so k e (stopped how Look d) M (subst (λ i. incarnation M.start M.lines k ≤ i) (sym
            (stopped_same how Look d tt)) low) rest,
        (
          λ how. down_so k e (stopped how (PutInc (d.inc + 1)) d) M (raised how) rest,
          next_walk k e (behind hd e k d M all.0) (parts_in k (d.inc + 1) d) (worked (PutInc (d.inc + 1)) d) V
              (outs_flat (book M.lines) (behind hd e k d M all.0) (behind_still hd e k d M all.0) g.acts)
              (lined_incs k (behind hd e k d M all.0) (book M.lines) g.lined.1) own_now (others_now rest),
        ),
      )
    where
      raised : (how : Stop) → incarnation M.start M.lines k ≤ (let x = stopped how (PutInc (d.inc + 1)) d in x.inc)
      raised Before = low
      raised After = let l = low in omega (arith, l)
      raised (InPart which) = subst (λ i. incarnation M.start M.lines k ≤ i) (sym (inc_in_part which (PutInc (d.inc + 1)) d)) low

      line : Line
      line = record { event = e; body = body.Up k (d.inc + 1) }

      V : Seen
      V = said e (body.Up k (d.inc + 1) ∷ []) M

      acts_same : acts V.lines ≡ acts M.lines
      acts_same = acts_more [] M.lines (line ∷ [])

      late : (i j : ℕ) → j ≤ i → (j == i + 1) ≡ false
      late i j is = grind (arith, nat_tests, is)

      none : (xs : List Act) → ((a : Act) → In a xs → (let u = a.uid in u.node) ≡ k → (let u = a.uid in u.inc) ≤ d.inc) →
          count_of k (d.inc + 1) xs ≡ 0
      none [] all = refl
      none (a ∷ xs) all = by ((let u = a.uid in u.node) == k) refl (none xs (λ x i. all x (inr i)))
        where
          rest : List Act
          rest = filter (λ (x : Act). ((let u = x.uid in u.node) == k) && ((let u = x.uid in u.inc) == (d.inc + 1))) xs

          by : (b : Bool) → ((let u = a.uid in u.node) == k) ≡ b → count_of k (d.inc + 1) xs ≡ 0 → count_of k (d.inc + 1) (a ∷ xs) ≡ 0
          by true on none_more = (λ i. length (cond (on i && late d.inc (let u = a.uid in u.inc)
              (all a (inl refl) (eqb-true (let u = a.uid in u.node) k on)) i) (a ∷ rest) rest)) ∙ none_more
          by false off none_more = (λ i. length (cond (off i && ((let u = a.uid in u.inc) == (d.inc + 1))) (a ∷ rest) rest)) ∙ none_more

      own_now : Own k (d.inc + 1) 0 V
      own_now = (
        inc_on k (let s = M.start in s.incs k + 1) M.lines line
            ∙ (λ i. if same_number k i then d.inc + 1 else inc_from k (let s = M.start in s.incs k + 1) M.lines),
        ap (count_of k (d.inc + 1)) acts_same ∙ none (acts M.lines) (counted hd e k d M all.0),
      )

      others_now : Others k M → Others k V
      others_now rest j n other is =
          let was = rest j n other is in
          let inc : incarnation V.start V.lines j ≡ incarnation M.start M.lines j
          = inc_on j (let s = M.start in s.incs j + 1) M.lines line
          ∙ (λ i. if off i then d.inc + 1 else inc_from j (let s = M.start in s.incs j + 1) M.lines) in (
            subst (λ m. m ≤ (let x = n.disk in x.inc)) (sym inc) was.0,
            λ x live. let r = was.1 x live in (inc ∙ r.0, ap (count_of j (let x = n.disk in x.inc)) acts_same ∙ r.1),
          )
        where
          off : (k == j) ≡ false
          off = by (k == j) refl
            where
              by : (b : Bool) → (k == j) ≡ b → b ≡ false
              by true e = absurd (other (sym (eqb-true k j e)))
              by false e = refl

-- as a run begins
first_next : (hd : Header) (st : Start) (j : ℕ) (n : Node) → at_place j (map (node_by hd st) (numbers_to hd.nodes)) ≡ Some n →
    IsNext (see [] (world_from hd st)) j n
first_next hd st j n is = subst (IsNext (see [] (world_from hd st)) j) (first_at hd st j n is) (itself (st.incs j + 1), its)
  where
    itself : (m : ℕ) → m ≤ m
    itself m = omega arith

    its : (t : Parts) → (node_by hd st j).live ≡ Some t → (st.incs j + 1 ≡ st.incs j + 1) × (0 ≡ length t.coord.tree.branches)
    its t live = (refl, ap (λ (x : Parts). length x.coord.tree.branches) (live_first hd st j t live))

pub next_keep : (hd : Header) → Keeps hd KnowsNext
next_keep hd = record {
  quiet = λ e bs M quiet all. (
    keep.quiet e bs M quiet all.0,
    λ j n is. let V = said e bs M in
        next_on 0 e bs M V j n refl refl (quiet_all bs quiet) (all.1 j n is),
  );
  stop = λ e k d live M all. (keep.stop e k d live M all.0, down_so k e d M (here k d live M all.1).0 (others k d live M all.1));
  message = λ e k d t v from m outs M all there meant is.
      both e k outs v d M (keep.message e k d t v from m outs M all.0 there meant is)
      (message_next e k d t M all v from m outs there meant is);
  act = λ e k d t i M is none all. let did = does i d.intents t.coord in
      both e k did.outs (with_coord t did.part) d M (keep.act e k d t i M is none all.0) (act_next e k d t M all hd i is none);
  begin = λ e k d t l how parent M new may none all.
      let did = begin_action l how parent (parent_of parent t.coord) t.coord in
      let N = given l (record { node = k; serial = is_serial how }) M in
      both e k did.outs (with_coord t did.part) d N (keep.begin e k d t l how parent M new may none all.0)
      (begin_next e k d t M all l how parent N refl refl refl);
  tick = λ e k d t M all. both e k (tick_outs (record { number = k; disk = d; live = Some t }) t)
      (with_coord t (again_all t.coord.doings t.coord).part) d M (keep.tick e k d t M all.0) (tick_next e k d t M all);
  restart = λ e k d M all. both e k (restart_outs hd k (d.inc + 1) d) (parts_in k (d.inc + 1) d) d M (keep.restart e k d M all.0)
      (restart_next hd e k d M all);
  first = λ st formed. (keep.first st formed, λ j n is. first_next hd st j n is);
}
  where
    keep : Keeps hd KnowsAll
    keep = halts_keep hd
