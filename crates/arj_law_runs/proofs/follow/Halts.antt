-- Which actions' nodes halted since they began: those that aren't up, in the action's incarnation.
use Rattle.arj_law_parts.proofs.Words
use Words.{◌≡◌, ◌∙◌, ◌+◌, ◌<◌, ◌≤◌, ◌==◌, ◌&&◌, ◌||◌, not, ℕ, suc, Bool, true, false, cond, List, [], ◌∷◌, ◌++◌, length, map, refl, sym, ap}
use Words.{subst}
use Words.{arith, inl, inr, ⊎_elim, Option, Some, None, is_some, nat_lt, nat_tests, append-nil, append_assoc, AllByRecursion, and_parts}
use Words.{eqb-true}
use Words.{list_all, In, Body, Line, Header, Kind, Label, Message, again_all, begin_action, began_line, Disk, Do, Effect, Say, Send, Look}
use Words.{⊤, Prepare, Commit, Abort, PutIntent, RemoveIntent, PutInc, Work, worked, stopped, Parts, Took, handle, holders, is_meant}
use Words.{naming_at, naming_back, numbers_to, parent_of, parts_in, Handled, Void, name, acts_own, again_own}
use Words.{prepared_actions, query_about, recovered_records, restart_outs, hello_to, tick_outs, tolds_again, tolds_again_own, uid_set}
use Words.{with_coord}
use Words.{without_number, Input, Node, acts as does, refusal_up, next_uid, numbered, Seen, is_serial, all_both}
use Words.body
use Words.role
use Rattle.arj_law_runs.proofs.Terms
use Terms.{Act, Placed, option_map, acts, acts_after, acts_from, put, read, at, down, given, posted, said, up, Up, Walks, halted}
use Terms.{walks_both}
use Terms.{Keeps, is_act, AreQuiet, Book, book, new_book, turned, AreLined, IsLined, IsKept, IsWritten, Remembers, IsCounted}
use Terms.seen
use Rattle.arj_law_parts.proofs.steps.Still.{Still, back_good, coord_good, is_still, map_good, outs_of, says_still, taken_good}
use Rattle.arj_law_parts.specs.moves.Seen.{is_quiet_line}
use Rattle.arj_law_parts.specs.steps.Spoken.{SaidIn}
use Rattle.arj_law_runs.proofs.journal.{Models.book_acts, Owners.acts_more, Paths.none_begins, Runs.lines_keep, Walks.its_own}
use Rattle.arj_law_runs.proofs.journal.Runs.{act_turns, message_turns, rest_goes, tick_turns}
use Rattle.arj_law_runs.proofs.kept.{Handled.it, Walked.same_number}
use Rattle.arj_law_runs.specs.journal.Knows.{after}
use Rattle.arj_model.specs.Actions as model
use Rattle.arj_model.specs.Actions.{Halt, begun_of, halt_of, halts, is_halted}

-- the node is up, in this incarnation
abbrev pub is_alive : Option Node → ℕ → Bool
is_alive None i = false
is_alive (Some n) i = is_some n.live && ((let d = n.disk in d.inc) == i)

-- the action's node halted since it began, unless it is up in the action's incarnation
abbrev pub IsTold : Seen → Act → Type 0
IsTold M a = is_halted (halts M.lines) a ≡ not (is_alive (M.nodes (let u = a.uid in u.node)) (let u = a.uid in u.inc))

-- so it is of each action that began
abbrev pub KnowsHalts : Seen → Type 0
KnowsHalts M = (a : Act) → In a (acts M.lines) → IsTold M a

-- ---- halts, a line more at a time

-- the action's node halted by what a line says
abbrev ends_by : Option Halt → Act → Bool
ends_by None a = false
ends_by (Some h) a = (h.node == (let u = a.uid in u.node)) && nat_lt a.id h.begun

put_halts : (n : ℕ) (o : Option Halt) (rest : List (Placed Halt)) (a : Act) → is_halted (put n o rest) a ≡ (ends_by o a || is_halted rest a)
put_halts n None rest a = refl
put_halts n (Some h) rest a = refl

or_false : (x : Bool) → (x || false) ≡ x
or_false true = refl
or_false false = refl

or_on : (x y z : Bool) → (x || (y || z)) ≡ ((x || y) || z)
or_on true y z = refl
or_on false y z = refl

halted_on : (a : Act) (xs : List Act) (n : ℕ) (ls : List Line) (l : Line) →
    is_halted (read halt_of xs n (ls ++ l ∷ [])) a ≡ (is_halted (read halt_of xs n ls) a || ends_by (halt_of (acts_from xs ls) l.body) a)
halted_on a xs n [] l = put_halts n (halt_of xs l.body) [] a ∙ or_false (ends_by (halt_of xs l.body) a)
halted_on a xs n (m ∷ ls) l =
    put_halts n (halt_of xs m.body) (read halt_of (acts_after xs m.body) (n + 1) (ls ++ l ∷ [])) a
    ∙ ap (λ x. ends_by (halt_of xs m.body) a || x) (halted_on a (acts_after xs m.body) (n + 1) ls l)
    ∙ or_on (ends_by (halt_of xs m.body) a) (is_halted (read halt_of (acts_after xs m.body) (n + 1) ls) a)
    (ends_by (halt_of (acts_from (acts_after xs m.body) ls) l.body) a)
    ∙ ap (λ x. x || ends_by (halt_of (acts_from (acts_after xs m.body) ls) l.body) a)
    (sym (put_halts n (halt_of xs m.body) (read halt_of (acts_after xs m.body) (n + 1) ls) a))

-- neither an action begins in the line nor a node halts
abbrev IsStill : Body → Type 0
IsStill b = (begun_of b ≡ None) × ((xs : List Act) → halt_of xs b ≡ None)

still_lines : (e : ℕ) (bs : List Body) (ls : List Line) → AllByRecursion IsStill bs → (acts (ls ++ numbered e bs) ≡ acts ls)
    × ((a : Act) → is_halted (halts (ls ++ numbered e bs)) a ≡ is_halted (halts ls) a)
still_lines e [] ls all = (ap acts (append-nil ls), λ a. ap (λ z. is_halted (halts z) a) (append-nil ls))
still_lines e (b ∷ bs) ls all =
    let l : Line = record { event = e; body = b } in
    let rest = still_lines e bs (ls ++ l ∷ []) all.1 in
    let same : ls ++ numbered e (b ∷ bs) ≡ (ls ++ l ∷ []) ++ numbered e bs = sym (append_assoc ls (l ∷ []) (numbered e bs)) in (
      ap acts same ∙ rest.0 ∙ acts_more [] ls (l ∷ []) ∙ ap (model.numbered (acts ls)) all.0.0,
      λ a. ap (λ z. is_halted (halts z) a) same ∙ rest.1 a ∙ halted_on a [] 0 ls l
          ∙ ap (λ o. is_halted (halts ls) a || ends_by o a) (all.0.1 (acts ls)) ∙ or_false (is_halted (halts ls) a),
    )

-- ---- which lines are still

quiet_still : (b : Body) → is_quiet_line b ≡ true → IsStill b
quiet_still (body.Began l k u p) is = absurd (cc is)
quiet_still (body.Halted n) is = absurd (cc is)
quiet_still b is = (refl, λ xs. refl)

quiet_all : (bs : List Body) → AreQuiet bs → AllByRecursion IsStill bs
quiet_all [] all = tt
quiet_all (b ∷ bs) all = let p = and_parts (is_quiet_line b) (list_all is_quiet_line bs) all in (quiet_still b p.0, quiet_all bs p.1)

pub longer : (x : Act) (xs : List Act) → x ∷ xs ≡ xs → ⊥
longer x xs is = by (length xs) (ap length is)
  where
    by : (n : ℕ) → suc n ≡ n → ⊥
    by n same = omega (arith, same)

body_still : (b : Body) (B : Book) → is_still b ≡ true → (let V = turned B b in V.acts) ≡ B.acts → IsStill b
body_still (body.Began l k u p) B is at = absurd (longer _ B.acts at)
body_still (body.Halted n) B is at = absurd (cc is)
body_still b B is at = (refl, λ xs. refl)

outs_still : (B : Book) (es : List Effect) → Still es → (let V = after B es in V.acts) ≡ B.acts → AllByRecursion (SaidIn IsStill) es
outs_still B [] all at = tt
outs_still B (Say b ∷ es) all at =
    let p = and_parts (is_still b) (list_all says_still es) all in
    let one = none_begins B b es B.acts refl at in
    (body_still b B p.0 one, outs_still (turned B b) es p.1 (at ∙ sym one))
outs_still B (Send to m ∷ es) all at = (tt, outs_still B es all at)
outs_still B (Do w ∷ es) all at = (tt, outs_still B es all at)

-- no incarnation is put
abbrev pub NoInc : Effect → Type 0
NoInc (Do (PutInc i)) = ⊥
NoInc e = ⊤

lined_work : (k : ℕ) (B : Book) (w : Work) → IsLined k B (Do w) → NoInc (Do w)
lined_work k B (PutInc i) is = is
lined_work k B (PutIntent u i) is = tt
lined_work k B w is = tt

pub lined_incs : (k : ℕ) (es : List Effect) (B : Book) → AreLined k B es → AllByRecursion NoInc es
lined_incs k [] B all = tt
lined_incs k (Say b ∷ es) B all = (tt, lined_incs k es (turned B b) all.1)
lined_incs k (Send to m ∷ es) B all = (tt, lined_incs k es B all.1)
lined_incs k (Do w ∷ es) B all = (lined_work k B w all.0, lined_incs k es B all.1)

pub inc_same : (w : Work) (d : Disk) → NoInc (Do w) → (let x = worked w d in x.inc) ≡ d.inc
inc_same (PutInc i) d free = absurd free
inc_same (Prepare role.Store u states) d free = refl
inc_same (Prepare role.Names u states) d free = refl
inc_same (Commit role.Store u) d free = refl
inc_same (Commit role.Names u) d free = refl
inc_same (Abort role.Store u) d free = refl
inc_same (Abort role.Names u) d free = refl
inc_same Look d free = refl
inc_same (PutIntent u i) d free = refl
inc_same (RemoveIntent u) d free = refl

-- ---- numbers of actions

low_from : (xs : List Act) (ls : List Line) → ((a : Act) → In a xs → a.id < length xs) → (a : Act) → In a (acts_from xs ls) →
    a.id < length (acts_from xs ls)
low_from xs [] low = low
low_from xs (l ∷ ls) low = low_from (acts_after xs l.body) ls (by (begun_of l.body))
  where
    by : (o : Option model.Begun) → (a : Act) → In a (model.numbered xs o) → a.id < length (model.numbered xs o)
    by None a i = low a i
    by (Some b) a (inl new) = omega (arith, ap (λ (x : Act). x.id) new)
    by (Some b) a (inr old) = let l = low a old in omega (arith, l)

low : (ls : List Line) (a : Act) → In a (acts ls) → a.id < length (acts ls)
low ls = low_from [] ls (λ a i. absurd i)

grown : (xs : List Act) (ls : List Line) → length xs ≤ length (acts_from xs ls)
grown xs [] = omega arith
grown xs (l ∷ ls) = let more = grown (acts_after xs l.body) ls in let one = by (begun_of l.body) in omega (arith, more, one)
  where
    by : (o : Option model.Begun) → length xs ≤ length (model.numbered xs o)
    by None = omega arith
    by (Some b) = omega arith

-- no halt ends an action that is still to begin
none_halted : (a : Act) (xs : List Act) (n : ℕ) (ls : List Line) → length (acts_from xs ls) ≤ a.id →
    is_halted (read halt_of xs n ls) a ≡ false
none_halted a xs n [] late = refl
none_halted a xs n (m ∷ ls) late =
    put_halts n (halt_of xs m.body) (read halt_of (acts_after xs m.body) (n + 1) ls) a
    ∙ (λ i. by m.body i || none_halted a (acts_after xs m.body) (n + 1) ls late i)
  where
    and_false : (x y : Bool) → y ≡ false → (x && y) ≡ false
    and_false true y is = is
    and_false false y is = refl

    less : (i j k : ℕ) → j ≤ k → k ≤ i → nat_lt i j ≡ false
    less i j k low high = grind (arith, nat_tests, low, high)

    by : (b : Body) → ends_by (halt_of xs b) a ≡ false
    by (body.Halted k) = and_false (k == (let u = a.uid in u.node)) (nat_lt a.id (length xs))
        (less a.id (length xs) (length (acts_from xs (m ∷ ls))) (grown xs (m ∷ ls)) late)
    by b = refl

-- ---- one node

module _ (k : ℕ) where
  -- the actions of the other nodes
  abbrev Others : Seen → Type 0
  Others N = (a : Act) → In a (acts N.lines) → ((let u = a.uid in u.node) == k) ≡ false → IsTold N a

  -- and its own, in this incarnation
  abbrev Own : ℕ → Seen → Type 0
  Own i N = (a : Act) → In a (acts N.lines) → ((let u = a.uid in u.node) == k) ≡ true →
      is_halted (halts N.lines) a ≡ not (i == (let u = a.uid in u.inc))

  its_others : (d : Disk) (live : Option Parts) (M : Seen) → KnowsHalts (at k d live M) → Others M
  its_others d live M all a i off = all a i ∙ (λ j. not (is_alive (cond (off j) (Some (record { number = k; disk = d; live = live }))
      (M.nodes (let u = a.uid in u.node))) (let u = a.uid in u.inc)))

  its_actions : (d : Disk) (live : Option Parts) (M : Seen) → KnowsHalts (at k d live M) → (a : Act) → In a (acts M.lines) →
      ((let u = a.uid in u.node) == k) ≡ true → is_halted (halts M.lines) a ≡ not (is_some live && (d.inc == (let u = a.uid in u.inc)))
  its_actions d live M all a i on = all a i ∙ (λ j. not (is_alive (cond (on j) (Some (record { number = k; disk = d; live = live }))
      (M.nodes (let u = a.uid in u.node))) (let u = a.uid in u.inc)))

  up_so : (d : Disk) (t : Parts) (N : Seen) → Others N → Own d.inc N → KnowsHalts (up k d t N)
  up_so d t N others own a i = by ((let u = a.uid in u.node) == k) refl
    where
      x : Node
      x = record { number = k; disk = d; live = Some t }

      by : (b : Bool) → ((let u = a.uid in u.node) == k) ≡ b → IsTold (up k d t N) a
      by true on = own a i on ∙ (λ j. not (is_alive (cond (sym on j) (Some x) (N.nodes (let u = a.uid in u.node))) (let u = a.uid in
          u.inc)))
      by false off =
          others a i off ∙ (λ j. not (is_alive (cond (sym off j) (Some x) (N.nodes (let u = a.uid in u.node))) (let u = a.uid in u.inc)))

  down_so : (e : ℕ) (d : Disk) (N : Seen) → Others N → KnowsHalts (halted e k d N)
  down_so e d N others a there = by ((let u = a.uid in u.node) == k) refl
    where
      x : Node
      x = record { number = k; disk = d; live = None }

      l : Line
      l = record { event = e; body = body.Halted k }

      i : In a (acts N.lines)
      i = subst (In a) (acts_more [] N.lines (l ∷ [])) there

      now : is_halted (halts (N.lines ++ l ∷ [])) a
          ≡ (is_halted (halts N.lines) a || ((k == (let u = a.uid in u.node)) && nat_lt a.id (length (acts N.lines))))
      now = halted_on a [] 0 N.lines l

      turn : (m n : ℕ) → (m == n) ≡ true → (n == m) ≡ true
      turn m n is = grind (arith, nat_tests, is)

      apart : (m n : ℕ) → (m == n) ≡ false → (n == m) ≡ false
      apart m n is = grind (arith, nat_tests, is)

      less : (m n : ℕ) → m < n → nat_lt m n ≡ true
      less m n is = grind (arith, nat_tests, is)

      or_true : (y : Bool) → (y || true) ≡ true
      or_true true = refl
      or_true false = refl

      by : (b : Bool) → ((let u = a.uid in u.node) == k) ≡ b → IsTold (halted e k d N) a
      by true on = now
          ∙ (λ j. is_halted (halts N.lines) a || (turn (let u = a.uid in u.node) k on j && less a.id (length (acts N.lines))
          (low N.lines a i) j))
          ∙ or_true (is_halted (halts N.lines) a)
          ∙ (λ j. not (is_alive (cond (sym on j) (Some x) (N.nodes (let u = a.uid in u.node))) (let u = a.uid in u.inc)))
      by false off = now
          ∙ (λ j. is_halted (halts N.lines) a || (apart (let u = a.uid in u.node) k off j && nat_lt a.id (length (acts N.lines))))
          ∙ or_false (is_halted (halts N.lines) a) ∙ others a i off
          ∙ (λ j. not (is_alive (cond (sym off j) (Some x) (N.nodes (let u = a.uid in u.node))) (let u = a.uid in u.inc)))

  others_on : (e : ℕ) (bs : List Body) (N V : Seen) → V.nodes ≡ N.nodes → V.lines ≡ N.lines ++ numbered e bs → AllByRecursion IsStill bs →
      Others N → Others V
  others_on e bs N V nodes lines still others a there off =
      let s = still_lines e bs N.lines still in
      ap (λ z. is_halted (halts z) a) lines ∙ s.1 a ∙ others a (subst (In a) (ap acts lines ∙ s.0) there) off
      ∙ (λ j. not (is_alive ((sym nodes) j (let u = a.uid in u.node)) (let u = a.uid in u.inc)))

  own_on : (e i : ℕ) (bs : List Body) (N V : Seen) → V.lines ≡ N.lines ++ numbered e bs → AllByRecursion IsStill bs → Own i N → Own i V
  own_on e i bs N V lines still own a there on =
      let s = still_lines e bs N.lines still in
      ap (λ z. is_halted (halts z) a) lines ∙ s.1 a ∙ own a (subst (In a) (ap acts lines ∙ s.0) there) on

  told_walk : (e : ℕ) (es : List Effect) (v : Parts) (d : Disk) (N : Seen) → AllByRecursion (SaidIn IsStill) es → AllByRecursion NoInc es →
      Others N → Own d.inc N → Walks KnowsHalts e k es (Up KnowsHalts k v) d N
  told_walk e [] v d N still incs others own = up_so d v N others own
  told_walk e (Do w ∷ es) v d N still incs others own = (
    λ how. down_so e (stopped how w d) N others,
    told_walk e es v (worked w d) N still.1 incs.1 others (subst (λ i. Own i N) (sym (inc_same w d incs.0)) own),
  )
  told_walk e (Say b ∷ es) v d N still incs others own =
      told_walk e es v d (said e (b ∷ []) N) still.1 incs.1 (others_on e (b ∷ []) N (said e (b ∷ []) N) refl refl (still.0, tt) others)
      (own_on e d.inc (b ∷ []) N (said e (b ∷ []) N) refl (still.0, tt) own)
  told_walk e (Send to m ∷ es) v d N still incs others own = λ more quiet.
      let V = said e more (posted (record { from = k; to = to; message = m }) N) in
      told_walk e es v d V still.1 incs.1 (others_on e more N V refl refl (quiet_all more quiet) others)
      (own_on e d.inc more N V refl (quiet_all more quiet) own)

-- ---- handlers

all_in : {A : Type 0} (P : A → Type 0) (xs : List A) → AllByRecursion P xs → (x : A) → In x xs → P x
all_in P [] all x i = absurd i
all_in P (y ∷ ys) all x (inl same) = subst P same all.0
all_in P (y ∷ ys) all x (inr i) = all_in P ys all.1 x i

abbrev pub KnowsAll : Seen → Type 0
KnowsAll M = IsKept M × KnowsHalts M

both : (e k : ℕ) (outs : List Effect) (v : Parts) (d : Disk) (M : Seen) → Walks IsKept e k outs (Up IsKept k v) d M →
    Walks KnowsHalts e k outs (Up KnowsHalts k v) d M → Walks KnowsAll e k outs (Up KnowsAll k v) d M
both e k outs v d M a b = walks_both IsKept KnowsHalts e k outs (Up IsKept k v) (Up KnowsHalts k v) d M a b

module _ (e k : ℕ) (d : Disk) (t : Parts) (M : Seen) (all : KnowsAll (up k d t M)) where
  own : Own k d.inc M
  own = its_actions k d (Some t) M all.1

  message_told : (v : Parts) (from : ℕ) (m : Message) (outs : List Effect) → seen.In (record { from = from; to = k; message = m }) M.sent →
      is_meant t m ≡ true → handle k d t from m ≡ Took v outs → Walks KnowsHalts e k outs (Up KnowsHalts k v) d M
  message_told v from m outs there meant is =
      let g = message_turns e k d t M all.0.0 all.0.1 v from m outs there is in
      let still : Still outs = subst (λ (h : Handled). Still (outs_of h)) ((λ i. cond (meant i) (handle k d t from m) (Void []))
      ∙ is) (taken_good k d t from m) in
      told_walk k e outs v d M (outs_still (book M.lines) outs still g.acts) (lined_incs k outs (book M.lines) g.lined)
      (its_others k d (Some t) M all.1) own

  act_told : (hd : Header) (i : Input) → is_act i ≡ true → refusal_up hd i t.coord ≡ None →
      let did = does i d.intents t.coord in Walks KnowsHalts e k did.outs (Up KnowsHalts k (with_coord t did.part)) d M
  act_told hd i is none =
      let did = does i d.intents t.coord in
      let g = act_turns e k d t M all.0.0 all.0.1 hd i is none in
      told_walk k e did.outs (with_coord t did.part) d M
      (outs_still (book M.lines) did.outs (coord_good did.outs (acts_own i d.intents t.coord)) g.acts)
      (lined_incs k did.outs (book M.lines) g.lined) (its_others k d (Some t) M all.1) own

  tick_told : Walks KnowsHalts e k (tick_outs (record { number = k; disk = d; live = Some t }) t)
      (Up KnowsHalts k (with_coord t (again_all t.coord.doings t.coord).part)) d M
  tick_told =
      let outs = tick_outs (record { number = k; disk = d; live = Some t }) t in
      let r = again_all t.coord.doings t.coord in
      let g = tick_turns e k d t M all.0.0 all.0.1 in
      let still : Still outs = all_both says_still (r.outs ++ tolds_again t.coord.telling) (map query_about (holders d t))
      (all_both says_still r.outs (tolds_again t.coord.telling) (coord_good r.outs (again_own t.coord.doings t.coord))
      (coord_good (tolds_again t.coord.telling) (tolds_again_own t.coord.telling)))
      (map_good query_about (holders d t) (λ u. refl)) in
      told_walk k e outs (with_coord t r.part) d M (outs_still (book M.lines) outs still g.acts) (lined_incs k outs (book M.lines) g.lined)
      (its_others k d (Some t) M all.1) own

  -- an action begins
  begin_told : (l : Label) (how : Kind) (parent : Option Label) (N : Seen) → N.nodes ≡ M.nodes → N.lines ≡ M.lines →
      let v = with_coord t (begin_action l how parent (parent_of parent t.coord) t.coord).part in
      KnowsHalts (up k d v (said e (began_line l how (next_uid t.coord.tree) parent ∷ []) N))
  begin_told l how parent N nodes lines = up_so k d v V others_now own_now
    where
      v : Parts
      v = with_coord t (begin_action l how parent (parent_of parent t.coord) t.coord).part

      b : Body
      b = began_line l how (next_uid t.coord.tree) parent

      line : Line
      line = record { event = e; body = b }

      V : Seen
      V = said e (b ∷ []) N

      new : Act
      new = record { id = length (acts M.lines); label = name l; kind = how; uid = next_uid t.coord.tree; parent = option_map name parent }

      acts_now : acts V.lines ≡ new ∷ acts M.lines
      acts_now = acts_more [] N.lines (line ∷ []) ∙ ap (λ ls. acts_after (acts ls) b) lines

      halts_now : (a : Act) → is_halted (halts V.lines) a ≡ is_halted (halts M.lines) a
      halts_now a = halted_on a [] 0 N.lines line ∙ or_false (is_halted (halts N.lines) a) ∙ ap (λ ls. is_halted (halts ls) a) lines

      its_node : (let u = new.uid in u.node) ≡ k
      its_node = let i = it e k d t M all.0.0 in i.node

      its_inc : (let u = new.uid in u.inc) ≡ d.inc
      its_inc = let i = it e k d t M all.0.0 in i.inc

      old_or : (a : Act) → In a (acts V.lines) → In a (new ∷ acts M.lines)
      old_or a i = subst (In a) acts_now i

      others_now : Others k V
      others_now a there off = by (old_or a there)
        where
          by : In a (new ∷ acts M.lines) → IsTold V a
          by (inl same) =
              let on : ((let u = a.uid in u.node) == k) ≡ true = ap (λ (x : Act). (let u = x.uid in u.node) == k) (sym same)
              ∙ ap (λ n. n == k) its_node ∙ same_number k in
              absurd (cc (sym on ∙ off))
          by (inr old) = halts_now a ∙ its_others k d (Some t) M all.1 a old off
              ∙ (λ j. not (is_alive ((sym nodes) j (let u = a.uid in u.node)) (let u = a.uid in u.inc)))

      own_now : Own k d.inc V
      own_now a there on = by (old_or a there)
        where
          by : In a (new ∷ acts M.lines) → is_halted (halts V.lines) a ≡ not (d.inc == (let u = a.uid in u.inc))
          by (inl same) =
              halts_now a ∙ subst (λ (x : Act). is_halted (halts M.lines) x ≡ false) same (none_halted new [] 0 M.lines (omega arith))
              ∙ sym (ap not (ap (λ (x : Act). d.inc == (let u = x.uid in u.inc)) (sym same) ∙ ap (λ n. d.inc == n) its_inc
              ∙ same_number d.inc))
          by (inr old) = halts_now a ∙ own a old on

-- a restart
module _ (hd : Header) (e k : ℕ) (d : Disk) (M : Seen) (all : KnowsAll (down k d M)) where
  abbrev inc : ℕ
  inc = d.inc + 1

  abbrev pub behind : List Effect
  behind = Do Look ∷ naming_back (naming_at k (d.inc + 1) d.names) ++ Do Look ∷ recovered_records k d.intents ++ tolds_again d.intents
      ++ map query_about (uid_set (prepared_actions d.store ++ prepared_actions d.names))
      ++ map (hello_to k (d.inc + 1)) (without_number k (numbers_to hd.nodes))

  pub behind_still : Still behind
  behind_still = all_both says_still ((((Do Look ∷ back) ++ records) ++ tolds_again d.intents) ++ asked) hellos
      (all_both says_still (((Do Look ∷ back) ++ records) ++ tolds_again d.intents) asked
      (all_both says_still ((Do Look ∷ back) ++ records) (tolds_again d.intents)
      (all_both says_still (Do Look ∷ back) records (back_good (naming_at k inc d.names)) (map_good _ d.intents (λ x. refl)))
      (coord_good (tolds_again d.intents) (tolds_again_own d.intents)))
      (map_good query_about (uid_set (prepared_actions d.store ++ prepared_actions d.names)) (λ u. refl)))
      (map_good (hello_to k inc) (without_number k (numbers_to hd.nodes)) (λ j. refl))
    where
      back : List Effect
      back = naming_back (naming_at k inc d.names)

      records : List Effect
      records = Do Look ∷ recovered_records k d.intents

      asked : List Effect
      asked = map query_about (uid_set (prepared_actions d.store ++ prepared_actions d.names))

      hellos : List Effect
      hellos = map (hello_to k inc) (without_number k (numbers_to hd.nodes))

  written : IsWritten (down k d M)
  written = all.0.1

  pub counted : (a : Act) → In a (acts M.lines) → (let u = a.uid in u.node) ≡ k → (let u = a.uid in u.inc) ≤ d.inc
  counted a i at = by (let o = its_own k d None M written in o.counts)
    where
      by : Remembers (book M.lines) k d.inc None → (let u = a.uid in u.inc) ≤ d.inc
      by c = ⊎_elim (λ lower. omega (arith, lower)) (λ same. omega (arith, same.0))
          (all_in (λ (x : Act). IsCounted k d.inc c.0 x.uid) (book M.lines).acts c.1 a (subst (In a) (sym
          (book_acts new_book M.lines)) i) at)

  restart_told : Walks KnowsHalts e k (restart_outs hd k (d.inc + 1) d) (Up KnowsHalts k (parts_in k (d.inc + 1) d)) d M
  restart_told =
      let others = its_others k d None M all.1 in
      let g = rest_goes hd e k d M all.0.0 all.0.1 in (
        λ how. down_so k e (stopped how Look d) M others,
        (
          λ how. down_so k e (stopped how (PutInc inc) d) M others,
          told_walk k e (Say (body.Up k inc) ∷ behind) (parts_in k inc d) (worked (PutInc inc) d) M
              ((refl, λ xs. refl), outs_still (book M.lines) behind behind_still g.acts)
              (lined_incs k (Say (body.Up k inc) ∷ behind) (book M.lines) g.lined) others own_now,
        ),
      )
    where
      late : (i j : ℕ) → j ≤ i → (i + 1 == j) ≡ false
      late i j is = grind (arith, nat_tests, is)

      own_now : Own k (d.inc + 1) M
      own_now a i on = its_actions k d None M all.1 a i on
          ∙ sym (ap not (late d.inc (let u = a.uid in u.inc) (counted a i (eqb-true (let u = a.uid in u.node) k on))))

pub halts_keep : (hd : Header) → Keeps hd KnowsAll
halts_keep hd = record {
  quiet = λ e bs M quiet all. (
    keep.quiet e bs M quiet all.0,
    λ a there. let s = still_lines e bs M.lines (quiet_all bs quiet) in
        s.1 a ∙ all.1 a (subst (In a) s.0 there),
  );
  stop = λ e k d live M all. (keep.stop e k d live M all.0, down_so k e d M (its_others k d live M all.1));
  message = λ e k d t v from m outs M all there meant is.
      both e k outs v d M (keep.message e k d t v from m outs M all.0 there meant is)
      (message_told e k d t M all v from m outs there meant is);
  act = λ e k d t i M is none all. let did = does i d.intents t.coord in
      both e k did.outs (with_coord t did.part) d M (keep.act e k d t i M is none all.0) (act_told e k d t M all hd i is none);
  begin = λ e k d t l how parent M new may none all.
      let did = begin_action l how parent (parent_of parent t.coord) t.coord in
      let N = given l (record { node = k; serial = is_serial how }) M in
      both e k did.outs (with_coord t did.part) d N (keep.begin e k d t l how parent M new may none all.0)
      (begin_told e k d t M all l how parent N refl refl);
  tick = λ e k d t M all. both e k (tick_outs (record { number = k; disk = d; live = Some t }) t)
      (with_coord t (again_all t.coord.doings t.coord).part) d M (keep.tick e k d t M all.0) (tick_told e k d t M all);
  restart = λ e k d M all. both e k (restart_outs hd k (d.inc + 1) d) (parts_in k (d.inc + 1) d) d M (keep.restart e k d M all.0)
      (restart_told hd e k d M all);
  first = λ st formed. (keep.first st formed, λ a i. absurd i);
}
  where
    keep : Keeps hd IsKept
    keep = lines_keep hd
