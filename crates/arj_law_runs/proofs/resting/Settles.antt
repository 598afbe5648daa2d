-- What holds through a quiesce in which every node stays up: through its settles, and by the ticks of all nodes.
use Rattle.arj_law_parts.proofs.Words
use Words.{◌≡◌, ◌⊎◌, ◌∙◌, ℕ, zero, suc, Bool, true, false, List, [], ◌∷◌, ◌++◌, refl, sym, ap, subst, inl, inr, ⊎_elim, Option, Some, None}
use Words.{eqb-true, arith, ◌&&◌, ◌||◌, ◌==◌, nat_le, not, if◌then◌else◌, nat_tests, in_left, in_right, Body, Header, Node, first_reason}
use Words.{numbers_to, World, counted, deliver, is_quiet, is_up_at, limited, lowest, lowest_from, node_numbers, quiesce}
use Words.{quiet_line, reasons, run_event, run_unless, settle, settle_for, steps, tick_all, tick_up, Post, Seen, AreUp, most_frames}
use Words.list as members
use Words.body
use Words.event
use Words.input
use Rattle.arj_law_runs.proofs.Terms
use Terms.{events_settle, Asked, says, Holds, KeepsAsked, In, deliver_holds, steps_hold}
use Terms.which
use Rattle.arj_law_runs.proofs.resting
use resting.{Fits.Few, Flights.MayGrow, Flights.MessagesKeep}
use resting.Worlds.{Flown, Of, TicksGive, Ups, settle_flown, settle_full, settle_up, steps_full, steps_up, tick_flown, tick_idle}

-- ---- the numbers of nodes

numbers_of : (m k : ℕ) → (nat_le 1 k && nat_le k m) ≡ true → members.In k (numbers_to m)
numbers_of zero k of = absurd (none k of)
  where
    none : (k : ℕ) → (nat_le 1 k && nat_le k 0) ≡ true → ⊥
    none k of = grind (arith, nat_tests)
numbers_of (suc m) k of = by (k == suc m) refl (numbers_of m k)
  where
    below : (k == suc m) ≡ false → (nat_le 1 k && nat_le k m) ≡ true
    below apart = grind (arith, nat_tests)

    by : (b : Bool) → (k == suc m) ≡ b → ((nat_le 1 k && nat_le k m) ≡ true → members.In k (numbers_to m)) →
        members.In k (numbers_to m ++ suc m ∷ [])
    by true is rest = in_right k (numbers_to m) (suc m ∷ []) (inl (sym (eqb-true k (suc m) is)))
    by false is rest = in_left k (numbers_to m) (suc m ∷ []) (rest (below is))

of_numbers : (m k : ℕ) → members.In k (numbers_to m) → (nat_le 1 k && nat_le k m) ≡ true
of_numbers zero k i = absurd i
of_numbers (suc m) k i = ⊎_elim (λ old. more (of_numbers m k old)) (λ new. last new) (members_either (numbers_to m) i)
  where
    more : (nat_le 1 k && nat_le k m) ≡ true → (nat_le 1 k && nat_le k (suc m)) ≡ true
    more of = grind (arith, nat_tests)

    last : suc m ≡ k → (nat_le 1 k && nat_le k (suc m)) ≡ true
    last is = grind (arith, nat_tests)

    members_either : (xs : List ℕ) → members.In k (xs ++ suc m ∷ []) → members.In k xs ⊎ (suc m ≡ k)
    members_either [] (inl is) = inr is
    members_either [] (inr i) = absurd i
    members_either (x ∷ xs) (inl is) = inl (inl is)
    members_either (x ∷ xs) (inr i) = ⊎_elim (λ a. inl (inr a)) (λ b. inr b) (members_either xs i)

-- ---- ticks

ticked_up : (hd : Header) (n : ℕ) (w : World) → Ups hd (tick_up n w) → Ups hd w
ticked_up hd n w ups k of = by (w.full || not (is_up_at n w)) (ups k of)
  where
    by : (b : Bool) → is_up_at k (if b then w else steps n input.Tick w) ≡ true → is_up_at k w ≡ true
    by true is = is
    by false is = steps_up k n input.Tick w tick_idle is

ticked_full : (n : ℕ) (w : World) → (tick_up n w).full ≡ false → w.full ≡ false
ticked_full n w is = by (w.full || not (is_up_at n w)) is
  where
    by : (b : Bool) → (if b then w else steps n input.Tick w).full ≡ false → w.full ≡ false
    by true is = is
    by false is = steps_full n input.Tick w is

ticks_up : (hd : Header) (ns : List ℕ) (w : World) → Ups hd (tick_all ns w) → Ups hd w
ticks_up hd [] w ups = ups
ticks_up hd (n ∷ ns) w ups = ticked_up hd n w (ticks_up hd ns (tick_up n w) ups)

ticks_full : (ns : List ℕ) (w : World) → (tick_all ns w).full ≡ false → w.full ≡ false
ticks_full [] w is = is
ticks_full (n ∷ ns) w is = ticked_full n w (ticks_full ns (tick_up n w) is)

-- a node that is up ticks, as long as frames fit
ticks_now : (P : World → Type 0) (n : ℕ) (w : World) → w.full ≡ false → is_up_at n w ≡ true → P (tick_up n w) → P (steps n input.Tick w)
ticks_now P n w fits live p = subst P (λ i. if (fits i || not (live i)) then w else steps n input.Tick w) p

now_ticks : (P : World → Type 0) (n : ℕ) (w : World) → w.full ≡ false → is_up_at n w ≡ true → P (steps n input.Tick w) → P (tick_up n w)
now_ticks P n w fits live p = let same : tick_up n w ≡ steps n input.Tick w = λ i.
    if (fits i || not (live i)) then w else steps n input.Tick w in subst P (sym same) p

module _ (hd : Header) (P : Seen → Type 0) (keeps : KeepsAsked hd P) where
  settle_held : (fuel : ℕ) (w : World) → Holds hd P w → Holds hd P (settle_for fuel w)
  settle_held zero w h = h
  settle_held (suc fuel) w h = by (lowest w) (settle_held fuel)
    where
      by : (o : Option ℕ) → ((v : World) → Holds hd P v → Holds hd P (settle_for fuel v)) →
          Holds hd P (elim o [ None ↦ w | Some k ↦ settle_for fuel (deliver k w) ])
      by None ih = h
      by (Some k) ih = ih (deliver k w) (deliver_holds hd P keeps k w h)

  ticks_held : (ns : List ℕ) (w : World) → Holds hd P w → Holds hd P (tick_all ns w)
  ticks_held [] w h = h
  ticks_held (n ∷ ns) w h = ticks_held ns (tick_up n w) (by (w.full || not (is_up_at n w)))
    where
      by : (b : Bool) → Holds hd P (if b then w else steps n input.Tick w)
      by true = h
      by false = steps_hold hd P keeps n input.Tick w h tt

-- these nodes, and one more
abbrev pub Also : (ℕ → Type 0) → ℕ → ℕ → Type 0
Also nodes n k = nodes k ⊎ (k ≡ n)

-- these nodes, and those of a list
abbrev With : (ℕ → Type 0) → List ℕ → ℕ → Type 0
With nodes ns k = nodes k ⊎ members.In k ns

abbrev pub Nobody : ℕ → Type 0
Nobody k = ⊥

-- the world behind the last settle of a quiesce
abbrev pub Settled : World → World
Settled w = settle (tick_all (node_numbers w) (settle w))

-- a line of a quiesce changes nothing of it
abbrev pub IsOfLines : (World → Type 0) → Type 0
IsOfLines C = (c : World) (b : Body) → C c → C (says (b ∷ []) c)

goes_over : (v : World) → (limited v).over ≡ false → v.full ≡ false
goes_over v = by v.full refl
  where
    by : (b : Bool) → v.full ≡ b → (if b then says (body.Limit which.Frames ∷ []) (record v { over = true }) else v).over ≡ false →
        v.full ≡ false
    by true full over = absurd (cc over)
    by false full over = full

-- behind the last settle there is the line of the quiesce, and the limit isn't met
behind_line : (C : World → Type 0) → IsOfLines C → (c : World) → (c.full ≡ false → lowest_from 1 c.frames ≡ None → AreUp c → C c)
    → lowest_from 1 (limited (quiet_line c)).frames ≡ None → (limited (quiet_line c)).over ≡ false → AreUp (limited (quiet_line c)) →
    C (limited (quiet_line c))
behind_line C lines c answers = by c.full refl
  where
    line : World
    line = says (body.Quiet (is_quiet c) ∷ []) c

    on : (b : Bool) → b ≡ false → c.full ≡ false →
        lowest_from 1 (if b then says (body.Limit which.Frames ∷ []) (record line { over = true }) else line).frames ≡ None →
        AreUp (if b then says (body.Limit which.Frames ∷ []) (record line { over = true }) else line)
        → C (if b then says (body.Limit which.Frames ∷ []) (record line { over = true }) else line)
    on true is fits none ups = absurd (cc is)
    on false is fits none ups = lines c (body.Quiet (is_quiet c)) (answers fits none ups)

    by : (b : Bool) → c.full ≡ b → lowest_from 1 (limited (if b then c else line)).frames ≡ None →
        (limited (if b then c else line)).over ≡ false → AreUp (limited (if b then c else line)) → C (limited (if b then c else line))
    by true full none over ups = absurd (cc (sym full ∙ goes_over c over))
    by false fits none over ups = on c.full fits fits none ups

module _ (hd : Header) (P : Seen → Type 0) (keeps : KeepsAsked hd P) (within : (M : Seen) (p : Post) → P M → In p M.sent → Of hd p.to)
    (J : (ℕ → Type 0) → (ℕ → Option Node) → (Post → Type 0) → (Body → Type 0) → Type 0) (more : (nodes : ℕ → Type 0) → MayGrow (J nodes))
    (message : (nodes : ℕ → Type 0) → MessagesKeep P (J nodes)) (fewer : (nodes other : ℕ → Type 0) (found : ℕ → Option Node) (F : Post →
    Type 0) (B : Body → Type 0) → ((k : ℕ) → other k → nodes k) → J nodes found F B → J other found F B)
    (ticks : (nodes : ℕ → Type 0) (n : ℕ) → Of hd n → TicksGive P n (J nodes) (J (Also nodes n))) where
  -- in the world, of these nodes
  abbrev pub FlownAt : (ℕ → Type 0) → World → Type 0
  FlownAt nodes w = Flown (J nodes) (more nodes) w

  record Ticked (nodes : ℕ → Type 0) (w : World) : Type 0 where
    held : Holds hd P w
    flown : FlownAt nodes w

  flown_less : (nodes other : ℕ → Type 0) (w : World) → ((k : ℕ) → other k → nodes k) → FlownAt nodes w → FlownAt other w
  flown_less nodes other w less i = fewer nodes other _ _ _ less i

  ticks_flown : (ns : List ℕ) (nodes : ℕ → Type 0) (w : World) → Holds hd P w → FlownAt nodes w → ((n : ℕ) → members.In n ns → Of hd n) →
      Ups hd (tick_all ns w) → (tick_all ns w).full ≡ false → Ticked (With nodes ns) (tick_all ns w)
  ticks_flown [] nodes w h c of ups fits =
      record { held = h; flown = flown_less nodes (With nodes []) w (λ k. ⊎_elim (λ there. there) (λ i. absurd i)) c }
  ticks_flown (n ∷ ns) nodes w h c of ups fits =
      let behind : Ups hd (tick_up n w) = ticks_up hd ns (tick_up n w) ups in
      let fits_behind : (tick_up n w).full ≡ false = ticks_full ns (tick_up n w) fits in
      let live : is_up_at n w ≡ true = ticked_up hd n w behind n (of n (inl refl)) in
      let free : w.full ≡ false = ticked_full n w fits_behind in
      let one : FlownAt (Also nodes n) (tick_up n w) = now_ticks (FlownAt (Also nodes n)) n w free live
      (tick_flown hd P keeps (J nodes) (J (Also nodes n)) (more nodes) (more (Also nodes n)) (message (Also nodes n)) n w h c
      (ticks nodes n (of n (inl refl))) live (ticks_now (λ v. is_up_at n v ≡ true) n w free live (behind n (of n (inl refl))))
      (ticks_now (λ v. v.full ≡ false) n w free live fits_behind)) in
      let held : Holds hd P (tick_up n w) = now_ticks (Holds hd P) n w free live (steps_hold hd P keeps n input.Tick w h tt) in
      let all = ticks_flown ns (Also nodes n) (tick_up n w) held one (λ j i. of j (inr i)) ups fits in
      record {
        held = all.held;
        flown = flown_less (With (Also nodes n) ns) (With nodes (n ∷ ns)) (tick_all ns (tick_up n w))
            (λ k. ⊎_elim (λ there. inl (inl there)) (⊎_elim (λ same. inl (inr (sym same))) (λ i. inr i))) all.flown;
      }

  settled_flown : (w : World) → Holds hd P w → FlownAt Nobody w → Ups hd (Settled w) → (Settled w).full ≡ false →
      FlownAt (Of hd) (Settled w)
  settled_flown w h flown ups fits =
      let a = settle w in
      let held : Holds hd P a = settle_held hd P keeps most_frames w h in
      let b = tick_all (node_numbers w) a in
      let ups_b : Ups hd b = settle_up hd most_frames b ups in
      let fits_b : b.full ≡ false = settle_full most_frames b fits in
      let first : FlownAt Nobody a = settle_flown hd P keeps within (J Nobody) (more Nobody) (message Nobody) most_frames w h flown
      (ticks_up hd (node_numbers w) a ups_b) (ticks_full (node_numbers w) a fits_b) in
      let numbers : node_numbers w ≡ numbers_to hd.nodes = ap (λ (x : Header). numbers_to x.nodes) h.stands.header in
      let ticked = ticks_flown (node_numbers w) Nobody a held first (λ n i. of_numbers hd.nodes n (subst (members.In n) numbers i)) ups_b
      fits_b in
      settle_flown hd P keeps within (J (Of hd)) (more (Of hd)) (message (Of hd)) most_frames b ticked.held
      (flown_less (With Nobody (node_numbers w)) (Of hd) b (λ k of. inr (subst (members.In k) (sym numbers) (numbers_of hd.nodes k of)))
      ticked.flown) ups fits

  -- behind the last settle
  last_leaves : (C : World → Type 0) → ((c : World) → Holds hd P c → c.header ≡ hd → lowest_from 1 c.frames ≡ None → Ups hd c →
      FlownAt (Of hd) c → C c) → (w : World) → Holds hd P w → FlownAt Nobody w
      → (Settled w).full ≡ false → lowest_from 1 (Settled w).frames ≡ None → AreUp (Settled w) → C (Settled w)
  last_leaves C each w h flown fits none ups =
      let a = settle_held hd P keeps most_frames w h in
      let b = ticks_held hd P keeps (node_numbers w) (settle w) a in
      let c = settle_held hd P keeps most_frames (tick_all (node_numbers w) (settle w)) b in
      let header = c.stands.header in
      let all : Ups hd (Settled w) = λ j of. ups j (subst (λ (x : Header). (nat_le 1 j && nat_le j x.nodes) ≡ true) (sym header) of) in
      each (Settled w) c header none all (settled_flown w h flown all fits)

  quiesced_leaves : (C : World → Type 0) → IsOfLines C → ((c : World) → Holds hd P c → c.header ≡ hd → lowest_from 1 c.frames ≡ None →
      Ups hd c → FlownAt (Of hd) c → C c) → (w : World) → Holds hd P w → FlownAt Nobody w
      → lowest_from 1 (limited (quiesce w)).frames ≡ None → (limited (quiesce w)).over ≡ false → AreUp (limited (quiesce w)) →
      C (limited (quiesce w))
  quiesced_leaves C lines each w h flown = behind_line C lines (Settled w) (last_leaves C each w h flown)

  -- What a quiesce leaves that went on, with every node up.
  pub quiesce_leaves : (C : World → Type 0) → IsOfLines C → ((c : World) → Holds hd P c → c.header ≡ hd → lowest_from 1 c.frames ≡ None →
      Ups hd c → FlownAt (Of hd) c → C c) → (e : Asked) (w : World) → Holds hd P w → Few w → FlownAt Nobody w
      → e.event ≡ event.Quiesce → w.over ≡ false → (run_event e w).over ≡ false → AreUp (run_event e w) → C (run_event e w)
  quiesce_leaves C lines each e w h few flown is over last ups = by last (events_settle e w (inr is) few over last) ups
    where
      marked : Holds hd P (counted w)
      marked = record {
        sent = h.sent;
        stands = record {
          frames = h.stands.frames;
          junk = h.stands.junk;
          header = h.stands.header;
          numbers = h.stands.numbers;
          places = h.stands.places;
          labels = h.stands.labels;
        };
        holds = h.holds;
      }

      run_is : run_event e w ≡ limited (quiesce (counted w))
      run_is = (λ i. if over i then w else run_unless e.event e.arm w (first_reason (reasons e.event w)))
          ∙ (λ i. run_unless (is i) e.arm w (first_reason (reasons (is i) w)))

      by : (run_event e w).over ≡ false → lowest_from 1 (run_event e w).frames ≡ None → AreUp (run_event e w) → C (run_event e w)
      by = subst (λ v. v.over ≡ false → lowest_from 1 v.frames ≡ None → AreUp v →
          C v) (sym run_is) (λ last none ups. quiesced_leaves C lines each (counted w) marked flown none last ups)
