-- The last line of a node that is down is its halt, and each of its `up` lines says an incarnation to which it has come.
use Rattle.arj_law_parts.proofs.Words
use Words.{◌≡◌, ◌∙◌, ◌≤◌, ◌+◌, ◌==◌, ℕ, Bool, true, false, cond, if◌then◌else◌, List, [], ◌∷◌, ◌++◌, map, Option, Some, None, refl}
use Words.{sym, ap, subst, ⊎_elim, arith, ⊤, is_some, append-nil, append_assoc, AllByRecursion, list_all, and_parts, eqb-true, eq-eqb}
use Words.{Body, Header, Kind, Label, Line, Message, Disk, Do, Effect, Say, Send, Look, PutInc, Stop, Before, After, InPart, Work}
use Words.{Prepare, Commit, Abort, PutIntent, RemoveIntent, worked, stopped, Naming, Parts, Took, handle, is_meant, with_coord, Input, Node}
use Words.{acts as does, acts_own, again_all, again_own, begin_action, parent_of, parts_in, query_about, refusal_up, restart_outs, tick_outs}
use Words.{tolds_again, tolds_again_own, all_both, holders, AreAll, is_coord_effect, is_coord_line, is_naming_line, is_server_line, is_serial}
use Words.{next_uid, began_line, numbered, Seen, Start, world_by, same_number, node_by, at_place}
use Words.body
use Words.role
use Rattle.arj_law_runs.proofs.Terms
use Terms.{Book, book, turned, AreLined, Keeps, keeps_asked, moves_asked, is_act, AreQuiet, at, down, given, posted, said, up, Up, Walks}
use Terms.{halted, Run}
use Terms.seen
use Rattle.arj_law_parts.proofs.steps.Still.{Still, coord_good, is_still, map_good, outs_of, says_still, taken_good}
use Rattle.arj_law_parts.specs.moves.Seen.{is_quiet_line}
use Rattle.arj_law_parts.specs.steps.Spoken.{SaidIn}
use Rattle.arj_law_runs.proofs.calls.Given.{KeepsGiven, keeps_given, kept_both}
use Rattle.arj_law_runs.proofs.follow.Halts.{KnowsAll, NoInc, behind, behind_still, halts_keep, lined_incs}
use Rattle.arj_law_runs.proofs.journal.Runs.{act_turns, message_turns, rest_goes, tick_turns}
use Rattle.arj_law_runs.proofs.journal.Walks.{inc_in_part}
use Rattle.arj_law_runs.proofs.kept.{Handled.it, Starts.first_at}
use Rattle.arj_law_serial.proofs.holding.Says as saying
use Rattle.arj_law_serial.proofs.joint.Starting.{start_stays}
use Rattle.arj_law_serial.proofs.past.Past.{past_keep}
use Rattle.arj_law_serial.specs.past.Told.{EndsArePast}
use Rattle.arj_protocol.specs.Node.{Void, Handled}
use Rattle.arj_rest.specs.Nodes.{halted_from, is_halt, is_halted, is_node, node_of}
use Rattle.arj_law_runs.specs.journal.Knows.{IsAbout}
use Rattle.arj_protocol.specs.Says.{is_entry, is_names, is_naming, is_object, is_server}
use Rattle.arj_protocol.specs.Step.{disk_by}

-- ---- lines

-- a node says such lines of itself alone
abbrev is_own : ℕ → Body → Bool
is_own k (body.Granted n u o how) = n == k
is_own k (body.Lowered n u o) = n == k
is_own k (body.Active n x b) = n == k
is_own k (body.Told n u e p) = n == k
is_own k (body.Prepared n u r) = n == k
is_own k (body.Done n u r e) = n == k
is_own k (body.Halted n) = n == k
is_own k (body.Up n i) = n == k
is_own k (body.Recovered n u) = n == k
is_own k b = true

-- the action that begins is of this node
abbrev BeginsAt : ℕ → Body → Type 0
BeginsAt k (body.Began l how u p) = u.node ≡ k
BeginsAt k b = ⊤

-- where the line says that the node is up, it isn't in a later incarnation than this
abbrev pub UpTo : ℕ → ℕ → Body → Type 0
UpTo n inc (body.Up m i) = m ≡ n → i ≤ inc
UpTo n inc b = ⊤

-- a line that isn't of this node
record Passes (n : ℕ) (b : Body) : Type 0 where
  other : is_node n (node_of b) ≡ false
  ups : (inc : ℕ) → UpTo n inc b

apart : (m n : ℕ) → (m == n) ≡ false → m ≡ n → ⊥
apart m n off same = let no_way : true ≡ false = sym (eq-eqb m n same) ∙ off in absurd (cc no_way)

turned_off : (m n : ℕ) → (m == n) ≡ false → (n == m) ≡ false
turned_off m n off = by (n == m) refl
  where
    by : (b : Bool) → (n == m) ≡ b → b ≡ false
    by true is = absurd (apart m n off (sym (eqb-true n m is)))
    by false is = refl

-- a node's own lines are of no other
own_passes : (k n : ℕ) (b : Body) → is_own k b ≡ true → BeginsAt k b → (n == k) ≡ false → Passes n b
own_passes k n (body.Began l how u p) own begins off =
    record { other = ap (λ m. m == n) begins ∙ turned_off n k off; ups = λ inc. tt }
own_passes k n (body.Granted m u o how) own begins off =
    record { other = ap (λ j. j == n) (eqb-true m k own) ∙ turned_off n k off; ups = λ inc. tt }
own_passes k n (body.Lowered m u o) own begins off =
    record { other = ap (λ j. j == n) (eqb-true m k own) ∙ turned_off n k off; ups = λ inc. tt }
own_passes k n (body.Active m x b) own begins off =
    record { other = ap (λ j. j == n) (eqb-true m k own) ∙ turned_off n k off; ups = λ inc. tt }
own_passes k n (body.Told m u e p) own begins off =
    record { other = ap (λ j. j == n) (eqb-true m k own) ∙ turned_off n k off; ups = λ inc. tt }
own_passes k n (body.Prepared m u r) own begins off =
    record { other = ap (λ j. j == n) (eqb-true m k own) ∙ turned_off n k off; ups = λ inc. tt }
own_passes k n (body.Done m u r e) own begins off =
    record { other = ap (λ j. j == n) (eqb-true m k own) ∙ turned_off n k off; ups = λ inc. tt }
own_passes k n (body.Halted m) own begins off =
    record { other = ap (λ j. j == n) (eqb-true m k own) ∙ turned_off n k off; ups = λ inc. tt }
own_passes k n (body.Up m i) own begins off = record {
  other = ap (λ j. j == n) (eqb-true m k own) ∙ turned_off n k off;
  ups = λ inc same. absurd (apart n k off (sym same ∙ eqb-true m k own));
}
own_passes k n (body.Recovered m u) own begins off =
    record { other = ap (λ j. j == n) (eqb-true m k own) ∙ turned_off n k off; ups = λ inc. tt }
own_passes k n (body.Ok l x o a) own begins off = record { other = refl; ups = λ inc. tt }
own_passes k n (body.Includes l x m) own begins off = record { other = refl; ups = λ inc. tt }
own_passes k n (body.Conflict l u how m) own begins off = record { other = refl; ups = λ inc. tt }
own_passes k n (body.Lost l m) own begins off = record { other = refl; ups = λ inc. tt }
own_passes k n (body.Changed l m d) own begins off = record { other = refl; ups = λ inc. tt }
own_passes k n (body.Committing l) own begins off = record { other = refl; ups = λ inc. tt }
own_passes k n (body.Committed l) own begins off = record { other = refl; ups = λ inc. tt }
own_passes k n (body.Ended l) own begins off = record { other = refl; ups = λ inc. tt }
own_passes k n (body.Aborted l c) own begins off = record { other = refl; ups = λ inc. tt }
own_passes k n (body.GaveUp l m) own begins off = record { other = refl; ups = λ inc. tt }
own_passes k n (body.Excluded l x m) own begins off = record { other = refl; ups = λ inc. tt }
own_passes k n (body.Bound x b m) own begins off = record { other = refl; ups = λ inc. tt }
own_passes k n (body.Sent a b c d) own begins off = record { other = refl; ups = λ inc. tt }
own_passes k n (body.Got a) own begins off = record { other = refl; ups = λ inc. tt }
own_passes k n (body.Void a) own begins off = record { other = refl; ups = λ inc. tt }
own_passes k n (body.Dropped a) own begins off = record { other = refl; ups = λ inc. tt }
own_passes k n (body.Armed a) own begins off = record { other = refl; ups = λ inc. tt }
own_passes k n (body.Refused a) own begins off = record { other = refl; ups = λ inc. tt }
own_passes k n (body.Entry a b c d) own begins off = record { other = refl; ups = λ inc. tt }
own_passes k n (body.Copy a b c d e) own begins off = record { other = refl; ups = λ inc. tt }
own_passes k n (body.Quiet a) own begins off = record { other = refl; ups = λ inc. tt }
own_passes k n (body.Bad a) own begins off = record { other = refl; ups = λ inc. tt }
own_passes k n (body.Limit a) own begins off = record { other = refl; ups = λ inc. tt }

quiet_passes : (n : ℕ) (b : Body) → is_quiet_line b ≡ true → Passes n b
quiet_passes n (body.Sent a b c d) is = record { other = refl; ups = λ inc. tt }
quiet_passes n (body.Got a) is = record { other = refl; ups = λ inc. tt }
quiet_passes n (body.Void a) is = record { other = refl; ups = λ inc. tt }
quiet_passes n (body.Dropped a) is = record { other = refl; ups = λ inc. tt }
quiet_passes n (body.Armed a) is = record { other = refl; ups = λ inc. tt }
quiet_passes n (body.Refused a) is = record { other = refl; ups = λ inc. tt }
quiet_passes n (body.Entry a b c d) is = record { other = refl; ups = λ inc. tt }
quiet_passes n (body.Copy a b c d e) is = record { other = refl; ups = λ inc. tt }
quiet_passes n (body.Quiet a) is = record { other = refl; ups = λ inc. tt }
quiet_passes n (body.Limit a) is = record { other = refl; ups = λ inc. tt }
quiet_passes n b is = absurd (cc is)

quiet_all : (n : ℕ) (bs : List Body) → AreQuiet bs → AllByRecursion (Passes n) bs
quiet_all n [] all = tt
quiet_all n (b ∷ bs) all = let p = and_parts (is_quiet_line b) (list_all is_quiet_line bs) all in (quiet_passes n b p.0, quiet_all n bs p.1)

halted_on : (n : ℕ) (before : Bool) (ls : List Line) (l : Line) →
    halted_from n before (ls ++ l ∷ []) ≡ cond (is_node n (node_of l.body)) (is_halt l.body) (halted_from n before ls)
halted_on n before [] l = refl
halted_on n before (m ∷ ls) l = halted_on n (cond (is_node n (node_of m.body)) (is_halt m.body) before) ls l

-- ---- a node, by the lines

-- the lines say no later incarnation of the node than this
abbrev Ups : ℕ → ℕ → List Line → Type 0
Ups n inc ls = AllByRecursion (λ (l : Line). UpTo n inc l.body) ls

ups_on : (n inc : ℕ) (ls : List Line) (l : Line) → Ups n inc ls → UpTo n inc l.body → Ups n inc (ls ++ l ∷ [])
ups_on n inc [] l all its = (its, tt)
ups_on n inc (m ∷ ls) l all its = (all.0, ups_on n inc ls l all.1 its)

up_higher : (n i j : ℕ) (b : Body) → i ≤ j → UpTo n i b → UpTo n j b
up_higher n i j (body.Up m k) le its = λ same. let l = its same in omega (arith, l, le)
up_higher n i j b le its = its

ups_higher : (n i j : ℕ) (ls : List Line) → i ≤ j → Ups n i ls → Ups n j ls
ups_higher n i j [] le all = tt
ups_higher n i j (l ∷ ls) le all = (up_higher n i j l.body le all.0, ups_higher n i j ls le all.1)

-- A node that was up as the run began: its last line is its halt while it is down; and it says no incarnation to which it hasn't come,
-- which isn't 0.
pub record IsRested (st : Start) (ls : List Line) (n : ℕ) (m : Node) : Type 0 where
  pub halts : st.up n ≡ true → m.live ≡ None → is_halted ls n ≡ true
  pub ups : Ups n (let d = m.disk in d.inc) ls
  pub some : 1 ≤ (let d = m.disk in d.inc)

-- so is each
abbrev pub AreRested : Seen → Type 0
AreRested M = (n : ℕ) (m : Node) → M.nodes n ≡ Some m → IsRested M.start M.lines n m

rested_on : (st : Start) (e n : ℕ) (m : Node) (bs : List Body) (ls : List Line) → AllByRecursion (Passes n) bs → IsRested st ls n m →
    IsRested st (ls ++ numbered e bs) n m
rested_on st e n m [] ls all rested = subst (λ ks. IsRested st ks n m) (sym (append-nil ls)) rested
rested_on st e n m (b ∷ bs) ls all rested =
    let l : Line = record { event = e; body = b } in
    subst (λ ks. IsRested st ks n m) (append_assoc ls (l ∷ []) (numbered e bs))
    (rested_on st e n m bs (ls ++ l ∷ []) all.1 (record {
      halts = λ begun off. halted_on n false ls l ∙ ap (λ x. cond x (is_halt b) (is_halted ls n)) all.0.other ∙ rested.halts begun off;
      ups = ups_on n m.disk.inc ls l rested.ups (all.0.ups m.disk.inc);
      some = rested.some;
    }))

-- ---- incarnations

-- the work doesn't lower it
abbrev Rises : Disk → Work → Type 0
Rises d (PutInc i) = d.inc ≤ i
Rises d w = ⊤

itself : (n : ℕ) → n ≤ n
itself n = omega arith

worked_rises : (w : Work) (d : Disk) → Rises d w → d.inc ≤ (worked w d).inc
worked_rises (PutInc i) d its = its
worked_rises Look d its = itself d.inc
worked_rises (Prepare role.Store u states) d its = itself d.inc
worked_rises (Prepare role.Names u states) d its = itself d.inc
worked_rises (Commit role.Store u) d its = itself d.inc
worked_rises (Commit role.Names u) d its = itself d.inc
worked_rises (Abort role.Store u) d its = itself d.inc
worked_rises (Abort role.Names u) d its = itself d.inc
worked_rises (PutIntent u i) d its = itself d.inc
worked_rises (RemoveIntent u) d its = itself d.inc

stopped_rises : (how : Stop) (w : Work) (d : Disk) → Rises d w → d.inc ≤ (stopped how w d).inc
stopped_rises Before w d its = itself d.inc
stopped_rises After w d its = worked_rises w d its
stopped_rises (InPart which) w d its = subst (λ i. d.inc ≤ i) (sym (inc_in_part which w d)) (itself d.inc)

none_rises : (w : Work) (d : Disk) → NoInc (Do w) → Rises d w
none_rises (PutInc i) d none = absurd none
none_rises Look d none = tt
none_rises (Prepare r u states) d none = tt
none_rises (Commit r u) d none = tt
none_rises (Abort r u) d none = tt
none_rises (PutIntent u i) d none = tt
none_rises (RemoveIntent u) d none = tt

-- ---- one node

lined_begins : (k : ℕ) (es : List Effect) (B : Book) → AreLined k B es → AllByRecursion (SaidIn (BeginsAt k)) es
lined_begins k [] B all = tt
lined_begins k (Say b ∷ es) B all = (by b all.0.1, lined_begins k es (turned B b) all.1)
  where
    by : (b : Body) → IsAbout k B b → BeginsAt k b
    by (body.Began l how u p) its = its
    by (body.Ok l x o a) its = tt
    by (body.Includes l x m) its = tt
    by (body.Conflict l u how m) its = tt
    by (body.Lost l m) its = tt
    by (body.Changed l m d) its = tt
    by (body.Committing l) its = tt
    by (body.Committed l) its = tt
    by (body.Ended l) its = tt
    by (body.Aborted l c) its = tt
    by (body.GaveUp l m) its = tt
    by (body.Excluded l x m) its = tt
    by (body.Granted m u o how) its = tt
    by (body.Lowered m u o) its = tt
    by (body.Bound x b m) its = tt
    by (body.Active m x b) its = tt
    by (body.Told m u e p) its = tt
    by (body.Prepared m u r) its = tt
    by (body.Done m u r e) its = tt
    by (body.Sent a b c d) its = tt
    by (body.Got a) its = tt
    by (body.Void a) its = tt
    by (body.Dropped a) its = tt
    by (body.Halted a) its = tt
    by (body.Up a b) its = tt
    by (body.Armed a) its = tt
    by (body.Recovered a b) its = tt
    by (body.Refused a) its = tt
    by (body.Entry a b c d) its = tt
    by (body.Copy a b c d e) its = tt
    by (body.Quiet a) its = tt
    by (body.Bad a) its = tt
    by (body.Limit a) its = tt
lined_begins k (Send to m ∷ es) B all = (tt, lined_begins k es B all.1)
lined_begins k (Do w ∷ es) B all = (tt, lined_begins k es B all.1)

still_up : (n inc : ℕ) (b : Body) → is_still b ≡ true → UpTo n inc b
still_up n inc (body.Up m i) is = absurd (cc is)
still_up n inc b is = tt

module _ (k : ℕ) where
  -- each node but this
  abbrev Others : Seen → Type 0
  Others N = (n : ℕ) (m : Node) → (n == k) ≡ false → N.nodes n ≡ Some m → IsRested N.start N.lines n m

  others_of : (d : Disk) (live : Option Parts) (M : Seen) → AreRested (at k d live M) → Others M
  others_of d live M all n m off is =
      all n m ((λ i. cond (off i) (Some (record { number = k; disk = d; live = live })) (M.nodes n)) ∙ is)

  -- this one has come so far
  abbrev Own : ℕ → List Line → Type 0
  Own inc ls = Ups k inc ls × (1 ≤ inc)

  own_of : (d : Disk) (live : Option Parts) (M : Seen) → AreRested (at k d live M) → Own d.inc M.lines
  own_of d live M all =
      let its = all k (record { number = k; disk = d; live = live })
      (λ i. cond (same_number k i) (Some (record { number = k; disk = d; live = live })) (M.nodes k)) in
      (its.ups, its.some)

  own_higher : (i j : ℕ) (ls : List Line) → i ≤ j → Own i ls → Own j ls
  own_higher i j ls le own = (ups_higher k i j ls le own.0, let low = own.1 in omega (arith, low, le))

  back : (d : Disk) (live : Option Parts) (N : Seen) → Others N → IsRested N.start N.lines k (record { number = k; disk = d; live = live }) →
      AreRested (at k d live N)
  back d live N others own n m is = by (n == k) refl is
    where
      x : Node
      x = record { number = k; disk = d; live = live }

      by : (b : Bool) → (n == k) ≡ b → cond b (Some x) (N.nodes n) ≡ Some m → IsRested N.start N.lines n m
      by true same there =
          let here : x ≡ m = cc in
          subst (λ j. IsRested N.start N.lines j m) (sym (eqb-true n k same)) (subst (IsRested N.start N.lines k) here own)
      by false off there = others n m off there

  up_so : (d : Disk) (t : Parts) (N : Seen) → Others N → Own d.inc N.lines → AreRested (up k d t N)
  up_so d t N others own = back d (Some t) N others (record {
    halts = λ begun off. let no_way : ◌≡◌ {A = Option Parts} (Some t) None = off in absurd (cc no_way);
    ups = own.0;
    some = own.1;
  })

  others_said : (e : ℕ) (bs : List Body) (N V : Seen) → V.nodes ≡ N.nodes → V.start ≡ N.start → V.lines ≡ N.lines ++ numbered e bs →
      ((n : ℕ) → (n == k) ≡ false → AllByRecursion (Passes n) bs) → Others N → Others V
  others_said e bs N V nodes start lines passes others n m off is =
      subst (λ (p : Start × List Line). IsRested p.0 p.1 n m) (λ i. (sym start i, sym lines i))
      (rested_on N.start e n m bs N.lines (passes n off) (others n m off ((λ i. sym nodes i n) ∙ is)))

  halts_so : (e : ℕ) (d : Disk) (N : Seen) → Others N → Own d.inc N.lines → AreRested (halted e k d N)
  halts_so e d N others own =
      let l : Line = record { event = e; body = body.Halted k } in
      let V = said e (body.Halted k ∷ []) N in
      back d None V (others_said e (body.Halted k ∷ []) N V refl refl refl
      (λ n off. (own_passes k n (body.Halted k) (same_number k) tt off, tt)) others) (record {
        halts = λ begun off. halted_on k false N.lines l ∙ ap (λ x. cond x true (is_halted N.lines k)) (same_number k);
        ups = ups_on k d.inc N.lines l own.0 tt;
        some = own.1;
      })

  walk : (e : ℕ) (es : List Effect) (v : Parts) (d : Disk) (N : Seen) → saying.All (is_own k) es → Still es → AllByRecursion NoInc es →
      AllByRecursion (SaidIn (BeginsAt k)) es → Others N → Own d.inc N.lines → Walks AreRested e k es (Up AreRested k v) d N
  walk e [] v d N own still incs begins others ups = up_so d v N others ups
  walk e (Do w ∷ es) v d N own still incs begins others ups = (
    λ how. halts_so e (stopped how w d) N others
        (own_higher d.inc (stopped how w d).inc N.lines (stopped_rises how w d (none_rises w d incs.0)) ups),
    walk e es v (worked w d) N own still incs.1 begins.1 others
        (own_higher d.inc (worked w d).inc N.lines (worked_rises w d (none_rises w d incs.0)) ups),
  )
  walk e (Say b ∷ es) v d N own still incs begins others ups =
      let p = and_parts (is_own k b) (list_all (saying.says (is_own k)) es) own in
      let q = and_parts (is_still b) (list_all says_still es) still in
      let l : Line = record { event = e; body = b } in
      walk e es v d (said e (b ∷ []) N) p.1 q.1 incs.1 begins.1
      (others_said e (b ∷ []) N (said e (b ∷ []) N) refl refl refl (λ n off. (own_passes k n b p.0 begins.0 off, tt)) others)
      (ups_on k d.inc N.lines l ups.0 (still_up k d.inc b q.0), ups.1)
  walk e (Send to m ∷ es) v d N own still incs begins others ups = λ more quiet.
      let V = said e more (posted (record { from = k; to = to; message = m }) N) in
      walk e es v d V own still incs.1 begins.1
      (others_said e more N V refl refl refl (λ n off. quiet_all n more quiet) others) (more_ups more quiet N.lines ups.0, ups.1)
    where
      more_ups : (bs : List Body) → AreQuiet bs → (ls : List Line) → Ups k d.inc ls → Ups k d.inc (ls ++ numbered e bs)
      more_ups [] q ls all = subst (Ups k d.inc) (sym (append-nil ls)) all
      more_ups (b ∷ bs) q ls all =
          let p = and_parts (is_quiet_line b) (list_all is_quiet_line bs) q in
          let l : Line = record { event = e; body = b } in
          subst (Ups k d.inc) (append_assoc ls (l ∷ []) (numbered e bs))
          (more_ups bs p.1 (ls ++ l ∷ []) (ups_on k d.inc ls l all ((quiet_passes k b p.0).ups d.inc)))

-- ---- which lines a node says

coord_own : (k : ℕ) (b : Body) → is_coord_line b ≡ true → is_own k b ≡ true
coord_own k (body.Granted n u o how) is = absurd (cc is)
coord_own k (body.Lowered n u o) is = absurd (cc is)
coord_own k (body.Active n x b) is = absurd (cc is)
coord_own k (body.Told n u e p) is = absurd (cc is)
coord_own k (body.Prepared n u r) is = absurd (cc is)
coord_own k (body.Done n u r e) is = absurd (cc is)
coord_own k (body.Halted n) is = absurd (cc is)
coord_own k (body.Up n i) is = absurd (cc is)
coord_own k (body.Recovered n u) is = absurd (cc is)
coord_own k b is = refl

coord_all : (k : ℕ) (es : List Effect) → AreAll is_coord_effect es → saying.All (is_own k) es
coord_all k = saying.kind_says (is_own k) is_coord_effect is_coord_line (λ b. refl) (coord_own k)

server_own : (k : ℕ) (b : Body) → is_server_line k b ≡ true → is_own k b ≡ true
server_own k (body.Granted n u o how) is = (and_parts (n == k) (is_object o) is).0
server_own k (body.Active n x b) is = is
server_own k (body.Told n u e p) is = (and_parts (n == k) (is_server p) is).0
server_own k b is = absurd (cc is)

naming_own : (k : ℕ) → k ≡ 1 → (b : Body) → is_naming_line b ≡ true → is_own k b ≡ true
naming_own k one (body.Granted n u o how) is = ap (λ j. n == j) one ∙ (and_parts (n == 1) (is_entry o) is).0
naming_own k one (body.Lowered n u o) is = ap (λ j. n == j) one ∙ (and_parts (n == 1) (is_entry o) is).0
naming_own k one (body.Bound x b n) is = refl
naming_own k one (body.Told n u e p) is = ap (λ j. n == j) one ∙ (and_parts (n == 1) (is_naming p) is).0
naming_own k one (body.Prepared n u r) is = ap (λ j. n == j) one ∙ (and_parts (n == 1) (is_names r) is).0
naming_own k one (body.Done n u r e) is = ap (λ j. n == j) one ∙ (and_parts (n == 1) (is_names r) is).0
naming_own k one b is = absurd (cc is)

message_own : (k : ℕ) (d : Disk) (t v : Parts) (from : ℕ) (m : Message) (outs : List Effect) → ((o : Naming) → t.naming ≡ Some o → k ≡ 1) →
    handle k d t from m ≡ Took v outs → saying.All (is_own k) outs
message_own k d t v from m outs named is = subst (λ (h : Handled). saying.All (is_own k) (saying.outs_of h)) is
    (⊎_elim (λ coord. coord_all k (saying.outs_of (handle k d t from m)) coord) (λ all. all)
    (saying.handle_says (is_own k) k (k ≡ 1) (server_own k) (λ one. naming_own k one) (λ u r. same_number k) (λ u r e. same_number k)
    d t from m named))

-- ---- handlers

-- what is known beside it
abbrev Base : Seen → Type 0
Base M = KnowsAll M × EndsArePast M

module _ (e k : ℕ) (d : Disk) (t : Parts) (M : Seen) (base : Base (up k d t M)) (rested : AreRested (up k d t M)) where
  others : Others k M
  others = others_of k d (Some t) M rested

  ups : Own k d.inc M.lines
  ups = own_of k d (Some t) M rested

  named : (o : Naming) → t.naming ≡ Some o → k ≡ 1
  named o is =
      let past = base.1.2 in
      let node = past.nodes k (record { number = k; disk = d; live = Some t })
      (λ i. cond (same_number k i) (Some (record { number = k; disk = d; live = Some t })) (M.nodes k)) in
      let told = node.live t refl in
      eqb-true k 1 (sym told.place ∙ ap is_some is)

  message_rests : (v : Parts) (from : ℕ) (m : Message) (outs : List Effect) → seen.In (record { from = from; to = k; message = m }) M.sent →
      is_meant t m ≡ true → handle k d t from m ≡ Took v outs → Walks AreRested e k outs (Up AreRested k v) d M
  message_rests v from m outs there meant is =
      let g = message_turns e k d t M base.0.0.0 base.0.0.1 v from m outs there is in
      let still : Still outs = subst (λ (h : Handled). Still (outs_of h)) ((λ i. cond (meant i) (handle k d t from m) (Void []))
      ∙ is) (taken_good k d t from m) in
      walk k e outs v d M (message_own k d t v from m outs named is) still (lined_incs k outs (book M.lines) g.lined)
      (lined_begins k outs (book M.lines) g.lined) others ups

  act_rests : (hd : Header) (i : Input) → is_act i ≡ true → refusal_up hd i t.coord ≡ None →
      let did = does i d.intents t.coord in Walks AreRested e k did.outs (Up AreRested k (with_coord t did.part)) d M
  act_rests hd i is none =
      let did = does i d.intents t.coord in
      let g = act_turns e k d t M base.0.0.0 base.0.0.1 hd i is none in
      walk k e did.outs (with_coord t did.part) d M (coord_all k did.outs (acts_own i d.intents t.coord))
      (coord_good did.outs (acts_own i d.intents t.coord)) (lined_incs k did.outs (book M.lines) g.lined)
      (lined_begins k did.outs (book M.lines) g.lined) others ups

  tick_rests : Walks AreRested e k (tick_outs (record { number = k; disk = d; live = Some t }) t)
      (Up AreRested k (with_coord t (again_all t.coord.doings t.coord).part)) d M
  tick_rests =
      let outs = tick_outs (record { number = k; disk = d; live = Some t }) t in
      let r = again_all t.coord.doings t.coord in
      let g = tick_turns e k d t M base.0.0.0 base.0.0.1 in
      let still : Still outs = all_both says_still (r.outs ++ tolds_again t.coord.telling) (map query_about (holders d t))
      (all_both says_still r.outs (tolds_again t.coord.telling) (coord_good r.outs (again_own t.coord.doings t.coord))
      (coord_good (tolds_again t.coord.telling) (tolds_again_own t.coord.telling)))
      (map_good query_about (holders d t) (λ u. refl)) in
      walk k e outs (with_coord t r.part) d M
      (all_both (saying.says (is_own k)) (r.outs ++ tolds_again t.coord.telling) (map query_about (holders d t))
      (all_both (saying.says (is_own k)) r.outs (tolds_again t.coord.telling) (coord_all k r.outs (again_own t.coord.doings t.coord))
      (coord_all k (tolds_again t.coord.telling) (tolds_again_own t.coord.telling)))
      (saying.map_says (is_own k) query_about (holders d t) (λ u. refl)))
      still (lined_incs k outs (book M.lines) g.lined) (lined_begins k outs (book M.lines) g.lined) others ups

  begin_rests : (l : Label) (how : Kind) (parent : Option Label) (N : Seen) → N.nodes ≡ M.nodes → N.start ≡ M.start → N.lines ≡ M.lines →
      let v = with_coord t (begin_action l how parent (parent_of parent t.coord) t.coord).part in
      AreRested (up k d v (said e (began_line l how (next_uid t.coord.tree) parent ∷ []) N))
  begin_rests l how parent N nodes start lines =
      let v = with_coord t (begin_action l how parent (parent_of parent t.coord) t.coord).part in
      let b = began_line l how (next_uid t.coord.tree) parent in
      let line : Line = record { event = e; body = b } in
      let V = said e (b ∷ []) N in
      up_so k d v V (others_said k e (b ∷ []) M V nodes start (ap (λ ls. ls ++ line ∷ []) lines)
      (λ n off. (own_passes k n b refl (let i = it e k d t M base.0.0.0 in i.node) off, tt)) others)
      (ups_on k d.inc N.lines line (subst (Ups k d.inc) (sym lines) ups.0) tt, ups.1)

-- a restart
module _ (hd : Header) (e k : ℕ) (d : Disk) (M : Seen) (base : Base (down k d M)) (rested : AreRested (down k d M)) where
  restart_rests : Walks AreRested e k (restart_outs hd k (d.inc + 1) d) (Up AreRested k (parts_in k (d.inc + 1) d)) d M
  restart_rests =
      let off = others_of k d None M rested in
      let was = own_of k d None M rested in
      let g = rest_goes hd e k d M base.0.0.0 base.0.0.1 in
      let inc = d.inc + 1 in
      let all = saying.restart_says (is_own k) hd k (d.inc + 1) d (coord_own k)
      (λ one u o how. ap (λ j. 1 == j) (eqb-true k 1 one)) (λ u. same_number k) (same_number k) in
      let own = and_parts (is_own k (body.Up k inc)) (list_all (saying.says (is_own k)) (behind hd e k d M base.0)) all in
      let line : Line = record { event = e; body = body.Up k inc } in
      let N = said e (body.Up k inc ∷ []) M in
      let incs = lined_incs k (Say (body.Up k inc) ∷ behind hd e k d M base.0) (book M.lines) g.lined in
      let begins = lined_begins k (Say (body.Up k inc) ∷ behind hd e k d M base.0) (book M.lines) g.lined in
      let higher = own_higher k d.inc inc M.lines (more d.inc) was in (
        λ how. halts_so k e (stopped how Look d) M off
            (own_higher k d.inc (stopped how Look d).inc M.lines (stopped_rises how Look d tt) was),
        (
          λ how. halts_so k e (stopped how (PutInc inc) d) M off
              (own_higher k d.inc (stopped how (PutInc inc) d).inc M.lines (stopped_rises how (PutInc inc) d (more d.inc)) was),
          walk k e (behind hd e k d M base.0) (parts_in k inc d) (worked (PutInc inc) d) N own.1 (behind_still hd e k d M base.0) incs.1
              begins.1
              (others_said k e (body.Up k inc ∷ []) M N refl refl refl
              (λ n off. (own_passes k n (body.Up k inc) (same_number k) tt off, tt)) off)
              (ups_on k inc M.lines line higher.0 (λ same. itself inc), higher.1),
        ),
      )
    where
      more : (i : ℕ) → i ≤ i + 1
      more i = omega arith

one : (n : ℕ) → 1 ≤ n + 1
one n = omega arith

first_rests : (hd : Header) (st : Start) (n : ℕ) → IsRested st [] n (node_by hd st n)
first_rests hd st n = record { halts = λ begun off. absurd (by (st.up n) begun off); ups = tt; some = one (st.incs n) }
  where
    by : (b : Bool) → b ≡ true → (if b then Some (parts_in n (st.incs n + 1) (disk_by hd st n)) else None) ≡ None →
        ⊥
    by true is off = let no_way : ◌≡◌ {A = Option Parts} (Some (parts_in n (st.incs n + 1) (disk_by hd st n))) None
        = off in cc no_way
    by false is off = cc is

rests_given : (hd : Header) → KeepsGiven hd Base AreRested
rests_given hd = record {
  quiet = λ e bs M quiet base rested n m is. rested_on M.start e n m bs M.lines (quiet_all n bs quiet) (rested n m is);
  stop = λ e k d live M base rested. halts_so k e d M (others_of k d live M rested) (own_of k d live M rested);
  message = λ e k d t v from m outs M base rested there meant is. message_rests e k d t M base rested v from m outs there meant is;
  act = λ e k d t i M is none base rested. act_rests e k d t M base rested hd i is none;
  begin = λ e k d t l how parent M new may none base rested. begin_rests e k d t M base rested l how parent
      (given l (record { node = k; serial = is_serial how }) M) refl refl refl;
  tick = λ e k d t M base rested. tick_rests e k d t M base rested;
  restart = λ e k d M base rested. restart_rests hd e k d M base rested;
  first = λ st formed n m is. subst (IsRested st [] n) (first_at hd st n m is) (first_rests hd st n);
}

rests_keep : (hd : Header) → Keeps hd (λ M. Base M × AreRested M)
rests_keep hd = kept_both hd Base AreRested (kept_both hd KnowsAll EndsArePast (halts_keep hd) (keeps_given hd KnowsAll EndsArePast (past_keep hd)))
    (rests_given hd)

-- so it is in every run
pub runs_rest : (hd : Header) (r : Run hd) (n : ℕ) (m : Node) → at_place n (world_by hd r).nodes ≡ Some m →
    IsRested r.start (world_by hd r).lines n m
runs_rest hd r n m is =
    let h = moves_asked hd (λ M. Base M × AreRested M) (keeps_asked hd (λ M. Base M × AreRested M) (rests_keep hd)) r in
    subst (λ st. IsRested st (world_by hd r).lines n m) (start_stays hd r) (h.holds.1 n m is)
