-- A show says what disks hold: each line shows a state, of the object or its entry, that a node holds and that no prepared action names.
use Rattle.arj_law_parts.proofs.Words
use Words.{⊤, ◌≡◌, ◌≢◌, ◌∙◌, ◌-◌, ◌==◌, ◌++◌, not, ℕ, zero, suc, Bool, true, false, cond, List, [], ◌∷◌, length, refl, sym, ap, subst}
use Words.{is_some, is_up, Line, Start, arith, nat_tests, eqb-true, Option, Some, None, AllByRecursion, append_assoc, append-nil, map-append, nat_lt, at_number, at_place}
use Words.{place_other, Body, Disk, Stop, Before, After, InPart, Effect, Say, Send, Do, Look, Work, Node, Parts, Step, Arm, World, Uid}
use Words.{ObjectState, Pair, armed, bodies, copy_line, count_works, cut, disarmed, done_step, entry, entry_line, halted_at}
use Words.{halted_outs, held_at, holder_of, is_up_at, numbered, object, set_node, set_place, show_all, show_entry, show_outs, show_up}
use Words.{shown, state_entry, step, step_node, step_with, steps, stopped, worked}
use Words.body
use Words.input
use Rattle.arj_law_runs.proofs.Terms.{place_same}
use Rattle.arj_law_runs.proofs.addresses.Lists.{all_append}
use Rattle.arj_law_runs.proofs.follow.Telling as telling
use Rattle.arj_model.specs.Refusals.{down_step, is_down}

-- ---- lines

-- node 1 holds an entry with this version and these lists
pub record IsHeldEntry (x : ℕ) (w : World) (y v : ℕ) (servers stores : List ℕ) : Type 0 where
  pub at : ℕ
  pub node : Node
  pub there : at_place at w.nodes ≡ Some node
  pub first : (node.number == 1) ≡ true
  pub free : holder_of (entry x) (let d = node.disk in d.names) ≡ None
  pub state : ObjectState
  pub held : held_at (entry x) (let d = node.disk in d.names) ≡ Some state
  pub shows : y ≡ x
  pub version : v ≡ state.version
  pub servers_are : servers ≡ (let e = state_entry state in e.servers)
  pub stores_are : stores ≡ (let e = state_entry state in e.stores)

-- the node holds a state of the object with this version, writer and payload
pub record IsHeldCopy (x : ℕ) (w : World) (n y v : ℕ) (u : Uid) (payload : List ℕ) : Type 0 where
  pub at : ℕ
  pub node : Node
  pub there : at_place at w.nodes ≡ Some node
  pub number : n ≡ node.number
  pub free : holder_of (object x) (let d = node.disk in d.store) ≡ None
  pub state : ObjectState
  pub held : held_at (object x) (let d = node.disk in d.store) ≡ Some state
  pub shows : y ≡ x
  pub version : v ≡ state.version
  pub writer : u ≡ state.writer
  pub content : payload ≡ state.payload

-- a line that shows what is held in this world
abbrev pub IsHeldLine : ℕ → World → Body → Type 0
IsHeldLine x w (body.Entry y v servers stores) = IsHeldEntry x w y v servers stores
IsHeldLine x w (body.Copy n y v u payload) = IsHeldCopy x w n y v u payload
IsHeldLine x w b = ⊤

-- a line that shows what this node holds
abbrev IsAt : ℕ → Body → Type 0
IsAt k (body.Entry y v servers stores) = ⊤
IsAt k (body.Copy n y v u payload) = n ≡ k
IsAt k b = ⊥

-- ---- lines of nodes that are up

-- a copy is shown of a node that is up by these lines
abbrev pub IsUpLine : Start → List Line → Body → Type 0
IsUpLine st ls (body.Copy n y v u payload) = is_down st ls n ≡ false
IsUpLine st ls b = ⊤

-- so it is of these lines of an event, each behind those before it
abbrev pub AreUpLines : Start → ℕ → List Line → List Body → Type 0
AreUpLines st e ls [] = ⊤
AreUpLines st e ls (b ∷ bs) = IsUpLine st ls b × AreUpLines st e (ls ++ numbered e (b ∷ [])) bs

ups_both : (st : Start) (e : ℕ) (ls : List Line) (cs bs : List Body) → AreUpLines st e ls cs → AreUpLines st e (ls ++ numbered e cs) bs →
    AreUpLines st e ls (cs ++ bs)
ups_both st e ls [] bs first more = subst (λ ms. AreUpLines st e ms bs) (append-nil ls) more
ups_both st e ls (c ∷ cs) bs first more = (
  first.0,
  ups_both st e (ls ++ numbered e (c ∷ [])) cs bs first.1
      (subst (λ ms. AreUpLines st e ms bs) (sym (append_assoc ls (numbered e (c ∷ [])) (numbered e cs))) more),
)

-- a line that shows something leaves who is up
same_down : (st : Start) (e k : ℕ) (ls : List Line) (b : Body) → IsAt k b → (j : ℕ) → is_down st (ls ++ numbered e (b ∷ [])) j ≡ is_down st ls j
same_down st e k ls b at j = telling.down_on e b j (not (st.up j)) ls ∙ by b at
  where
    by : (b : Body) → IsAt k b → down_step j b (is_down st ls j) ≡ is_down st ls j
    by (body.Entry y v servers stores) at = refl
    by (body.Copy n y v u payload) at = refl
    by b at = absurd at

-- and a halt all others
halt_down : (st : Start) (e k : ℕ) (ls : List Line) (j : ℕ) → (k == j) ≡ false →
    is_down st (ls ++ numbered e (body.Halted k ∷ [])) j ≡ is_down st ls j
halt_down st e k ls j off = telling.down_on e (body.Halted k) j (not (st.up j)) ls ∙ (λ i. cond (off i) true (is_down st ls j))

-- ---- effects that look, and say such lines

abbrev IsShown : ℕ → World → ℕ → Effect → Type 0
IsShown x w k (Say b) = IsHeldLine x w b × IsAt k b
IsShown x w k (Do how) = how ≡ Look
IsShown x w k (Send to m) = ⊥

abbrev AreHeld : ℕ → World → ℕ → List Effect → Type 0
AreHeld x w k es = AllByRecursion (IsShown x w k) es

bodies_so : (x : ℕ) (w : World) (k j : ℕ) (es : List Effect) → AreHeld x w k es → AllByRecursion (IsHeldLine x w) (bodies k j es)
bodies_so x w k j [] all = tt
bodies_so x w k j (Say b ∷ es) all = (all.0.0, bodies_so x w k j es all.1)
bodies_so x w k j (Do how ∷ es) all = bodies_so x w k j es all.1
bodies_so x w k j (Send to m ∷ es) all = absurd all.0

bodies_both : (x : ℕ) (w : World) (k j : ℕ) (es fs : List Effect) → AreHeld x w k es → bodies k j (es ++ fs) ≡ bodies k j es ++ bodies k j fs
bodies_both x w k j [] fs all = refl
bodies_both x w k j (Say b ∷ es) fs all = ap (λ bs. b ∷ bs) (bodies_both x w k j es fs all.1)
bodies_both x w k j (Do how ∷ es) fs all = bodies_both x w k j es fs all.1
bodies_both x w k j (Send to m ∷ es) fs all = absurd all.0

-- while the node is up it shows what it does, and all stay as they are
said_ups : (st : Start) (e x : ℕ) (w : World) (k j : ℕ) (es : List Effect) → AreHeld x w k es → (ls : List Line) → is_down st ls k ≡ false →
    AreUpLines st e ls (bodies k j es) × ((i : ℕ) → is_down st (ls ++ numbered e (bodies k j es)) i ≡ is_down st ls i)
said_ups st e x w k j [] all ls up = (tt, λ i. ap (λ ms. is_down st ms i) (append-nil ls))
said_ups st e x w k j (Do how ∷ es) all ls up = said_ups st e x w k j es all.1 ls up
said_ups st e x w k j (Send to m ∷ es) all ls up = absurd all.0
said_ups st e x w k j (Say b ∷ es) all ls up =
    let r = said_ups st e x w k j es all.1 (ls ++ numbered e (b ∷ [])) (same_down st e k ls b all.0.1 k ∙ up) in (
      (line b all.0.1, r.0),
      (λ i. ap (λ ms. is_down st ms i) (sym (append_assoc ls (numbered e (b ∷ [])) (numbered e (bodies k j es)))) ∙ r.1 i
          ∙ same_down st e k ls b all.0.1 i),
    )
  where
    line : (b : Body) → IsAt k b → IsUpLine st ls b
    line (body.Copy n y v u payload) at = ap (is_down st ls) at ∙ up
    line (body.Entry y v servers stores) at = tt
    line b at = absurd at

-- a stop at a look leaves the disk as it is
still : (how : Stop) (k : Work) (d : Disk) → k ≡ Look → stopped how k d ≡ d
still how k d is = ap (λ z. stopped how z d) is ∙ by how
  where
    by : (s : Stop) → stopped s Look d ≡ d
    by Before = refl
    by After = refl
    by (InPart which) = refl

cut_so : (x : ℕ) (w : World) (k c : ℕ) (how : Stop) (es : List Effect) (d : Disk) → AreHeld x w k es →
    AreHeld x w k (cut c how es d).outs × ((cut c how es d).disk ≡ d)
cut_so x w k c how [] d all = (tt, refl)
cut_so x w k zero how (Do a ∷ es) d all = (tt, still how a d all.0)
cut_so x w k (suc c) how (Do a ∷ es) d all =
    let r = cut_so x w k c how es (worked a d) all.1 in ((all.0, r.0), r.1 ∙ ap (λ z. worked z d) all.0)
cut_so x w k zero how (Say b ∷ es) d all = let r = cut_so x w k zero how es d all.1 in ((all.0, r.0), r.1)
cut_so x w k (suc c) how (Say b ∷ es) d all = let r = cut_so x w k (suc c) how es d all.1 in ((all.0, r.0), r.1)
cut_so x w k zero how (Send to m ∷ es) d all = absurd all.0
cut_so x w k (suc c) how (Send to m ∷ es) d all = absurd all.0

-- what a node shows that holds what this one does
module _ (x : ℕ) (w : World) (at : ℕ) (n : Node) (there : at_place at w.nodes ≡ Some n) (placed : n.number ≡ at) where
  entry_so : (num : ℕ) (p : Pair) → num ≡ n.number → p ≡ (let d = n.disk in d.names) → AreHeld x w at (show_entry num x p)
  entry_so num p number same = by (num == 1) refl
    where
      line : (num == 1) ≡ true → holder_of (entry x) p ≡ None → (o : Option ObjectState) → held_at (entry x) p ≡ o →
          AreHeld x w at (entry_line x o)
      line one free None is = tt
      line one free (Some s) is = (
        (
          record {
            at = at;
            node = n;
            there = there;
            first = ap (λ k. k == 1) (sym number) ∙ one;
            free = ap (holder_of (entry x)) (sym same) ∙ free;
            state = s;
            held = ap (held_at (entry x)) (sym same) ∙ is;
            shows = refl;
            version = refl;
            servers_are = refl;
            stores_are = refl;
          },
          tt,
        ),
        tt,
      )

      known : (num == 1) ≡ true → (o : Option Uid) → holder_of (entry x) p ≡ o → AreHeld x w at (shown (entry_line x) (entry x) p o)
      known one (Some holder) is = tt
      known one None is = (refl, line one is (held_at (entry x) p) refl)

      by : (b : Bool) → (num == 1) ≡ b → AreHeld x w at (cond b (shown (entry_line x) (entry x) p (holder_of (entry x) p)) [])
      by true one = known one (holder_of (entry x) p) refl
      by false other = tt

  copy_so : (num : ℕ) (p : Pair) → num ≡ n.number → p ≡ (let d = n.disk in d.store) →
      AreHeld x w at (shown (copy_line num x) (object x) p (holder_of (object x) p))
  copy_so num p number same = known (holder_of (object x) p) refl
    where
      line : holder_of (object x) p ≡ None → (o : Option ObjectState) → held_at (object x) p ≡ o → AreHeld x w at (copy_line num x o)
      line free None is = tt
      line free (Some s) is = (
        (
          record {
            at = at;
            node = n;
            there = there;
            number = number;
            free = ap (holder_of (object x)) (sym same) ∙ free;
            state = s;
            held = ap (held_at (object x)) (sym same) ∙ is;
            shows = refl;
            version = refl;
            writer = refl;
            content = refl;
          },
          number ∙ placed,
        ),
        tt,
      )

      known : (o : Option Uid) → holder_of (object x) p ≡ o → AreHeld x w at (shown (copy_line num x) (object x) p o)
      known (Some holder) is = tt
      known None is = (refl, line is (held_at (object x) p) refl)

  outs_so : (num : ℕ) (d : Disk) → num ≡ n.number → d ≡ n.disk → AreHeld x w at (show_outs num x d)
  outs_so num d number same = all_append (IsShown x w at) (show_entry num x d.names)
      (shown (copy_line num x) (object x) d.store (holder_of (object x) d.store))
      (entry_so num d.names number (ap (λ (e : Disk). e.names) same)) (copy_so num d.store number (ap (λ (e : Disk). e.store) same))

-- ---- in the world

-- each node of the second world has the disk of one of the first
abbrev AreSameDisks : World → World → Type 0
AreSameDisks w v = (k : ℕ) (m : Node) → at_place k v.nodes ≡ Some m →
    (n : Node) × (at_place k w.nodes ≡ Some n) × (m.number ≡ n.number) × (m.disk ≡ n.disk)

-- Lines that show what is held in the first world, of nodes that are up; disks are as they are there, and nodes that are up are so by the
-- lines.
pub record ShowsHeld (st : Start) (x : ℕ) (w v : World) : Type 0 where
  pub added : List Body
  pub lines : v.lines ≡ w.lines ++ numbered w.event added
  pub event : v.event ≡ w.event
  pub has : AllByRecursion (IsHeldLine x w) added
  pub ups : AreUpLines st w.event w.lines added
  pub same : AreSameDisks w v
  pub live : (j : ℕ) (m : Node) → at_place j v.nodes ≡ Some m → is_some m.live ≡ true → is_down st v.lines j ≡ false

some_is : {A : Type 0} {a b : A} → Some a ≡ Some b → a ≡ b
some_is {A} {a} {b} is = let k : ◌≡◌ {A = Option A} (Some a) (Some b) = is in cc k

apart : (j k : ℕ) → (j == k) ≡ false → j ≢ k
apart j k e = grind (arith, nat_tests)

-- a node in its place that has the disk of the one before
set_same : (w v : World) (k : ℕ) (m q : Node) → at_place k v.nodes ≡ Some m → q.number ≡ m.number → q.disk ≡ m.disk →
    AreSameDisks w v → AreSameDisks w (set_node k q v)
set_same w v k m q is number disk same j p there = by (j == k) refl
  where
    by : (b : Bool) → (j == k) ≡ b → (n : Node) × (at_place j w.nodes ≡ Some n) × (p.number ≡ n.number) × (p.disk ≡ n.disk)
    by false other = same j p (sym (place_other k j q v.nodes (apart j k other)) ∙ there)
    by true at =
        let here : j ≡ k = eqb-true j k at in
        let one : q ≡ p = some_is (sym (place_same k q m v.nodes is) ∙ ap (λ i. at_place i (set_place k q v.nodes)) (sym here) ∙ there) in
        let old = same j m (ap (λ i. at_place i v.nodes) here ∙ is) in (
          old.0,
          old.1,
          ap (λ (z : Node). z.number) (sym one) ∙ number ∙ old.2,
          ap (λ (z : Node). z.disk) (sym one) ∙ disk ∙ old.3,
        )

module _ (st : Start) (x : ℕ) (w : World) (places : (n : ℕ) (m : Node) → at_place n w.nodes ≡ Some m → m.number ≡ n) where
  module _ (k : ℕ) (v : World) (s : ShowsHeld st x w v) where
    -- the lines so far
    abbrev so_far : List Line
    so_far = w.lines ++ numbered w.event s.added

    -- what is put by this node, of which so much is known
    put_so : (outs : List Effect) (u : World) → u.lines ≡ v.lines → u.event ≡ v.event → AreSameDisks w u → (bs : List Body) →
        bodies k (length u.frames) outs ≡ bs → AllByRecursion (IsHeldLine x w) bs → AreUpLines st w.event so_far bs →
        ((j : ℕ) (m : Node) → at_place j u.nodes ≡ Some m → is_some m.live ≡ true → is_down st (so_far ++ numbered w.event bs) j ≡ false) →
        ShowsHeld st x w (Words.put k outs u)
    put_so outs u lines event same bs are has ups live =
        let now : u.lines ++ numbered u.event (bodies k (length u.frames) outs) ≡ so_far ++ numbered w.event bs
        = (λ i. (lines ∙ s.lines) i ++ numbered ((event ∙ s.event) i) (are i)) in record {
          added = s.added ++ bs;
          lines = now ∙ append_assoc w.lines (numbered w.event s.added) (numbered w.event bs)
              ∙ ap (λ ls. w.lines ++ ls) (sym (map-append (λ (c : Body). record { event = w.event; body = c }) s.added bs));
          event = event ∙ s.event;
          has = all_append (IsHeldLine x w) s.added bs s.has has;
          ups = ups_both st w.event w.lines s.added bs s.ups ups;
          same = same;
          live = λ j m there up. ap (λ ls. is_down st ls j) now ∙ live j m there up;
        }

    abbrev Fits : Node → Step → Type 0
    Fits m step = AreHeld x w k step.outs × AreHeld x w k step.halting × (step.after ≡ m)

    -- a step of a node that is up, or none
    step_fits : (m : Node) → at_place k v.nodes ≡ Some m → Fits m (step v.header m (input.Show x))
    step_fits m is = by m.live refl
      where
        old : (n : Node) × (at_place k w.nodes ≡ Some n) × (m.number ≡ n.number) × (m.disk ≡ n.disk)
        old = s.same k m is

        all : AreHeld x w k (show_outs m.number x m.disk)
        all = outs_so x w k old.0 old.1 (places k old.0 old.1) m.number m.disk old.2 old.3

        by : (o : Option Parts) → m.live ≡ o → Fits m (step v.header m (input.Show x))
        by None off = subst (Fits m) (sym (ap (input.step_unless v.header (input.Show x) m)
            (ap (input.refusal_at v.header (input.Show x)) off) ∙ ap (input.step_of v.header (input.Show x) m) off)) (tt, tt, refl)
        by (Some t) live = subst (Fits m) (sym (ap (input.step_unless v.header (input.Show x) m)
            (ap (input.refusal_at v.header (input.Show x)) live) ∙ ap (input.step_of v.header (input.Show x) m) live)) (all, all, refl)

    -- who is up is so by the lines so far
    live_far : (j : ℕ) (m : Node) → at_place j v.nodes ≡ Some m → is_some m.live ≡ true → is_down st so_far j ≡ false
    live_far j m there up = ap (λ ls. is_down st ls j) (sym s.lines) ∙ s.live j m there up

    module _ (m : Node) (is : at_place k v.nodes ≡ Some m) (up : is_some m.live ≡ true) (one : Step) (f : Fits m one) where
      -- another node, or this one, where it was put as it was
      put_live : (q : Node) → q ≡ m → (bs : List Body) → ((j : ℕ) → is_down st (so_far ++ numbered w.event bs) j ≡ is_down st so_far j) →
          (j : ℕ) (p : Node) → at_place j (set_place k q v.nodes) ≡ Some p → is_some p.live ≡ true →
          is_down st (so_far ++ numbered w.event bs) j ≡ false
      put_live q same bs stays j p there live = stays j ∙ by (j == k) refl
        where
          by : (b : Bool) → (j == k) ≡ b → is_down st so_far j ≡ false
          by false other = live_far j p (sym (place_other k j q v.nodes (apart j k other)) ∙ there) live
          by true at = ap (is_down st so_far) (eqb-true j k at) ∙ live_far k m is up

      gone_live : (q : Node) → q.live ≡ None → (bs : List Body) →
          ((j : ℕ) → (k == j) ≡ false → is_down st (so_far ++ numbered w.event bs) j ≡ is_down st so_far j) →
          (j : ℕ) (p : Node) → at_place j (set_place k q v.nodes) ≡ Some p → is_some p.live ≡ true →
          is_down st (so_far ++ numbered w.event bs) j ≡ false
      gone_live q gone bs stays j p there live = by (j == k) refl
        where
          turned : (a b : ℕ) → (a == b) ≡ false → (b == a) ≡ false
          turned a b is = grind (arith, nat_tests, is)

          by : (b : Bool) → (j == k) ≡ b → is_down st (so_far ++ numbered w.event bs) j ≡ false
          by false other = stays j (turned j k other) ∙ live_far j p (sym (place_other k j q v.nodes (apart j k other)) ∙ there) live
          by true at =
              let same : q ≡ p = some_is (sym (place_same k q m v.nodes is) ∙ ap (λ i. at_place i (set_place k q v.nodes))
              (sym (eqb-true j k at)) ∙ there) in
              absurd (cc (ap is_some (sym gone ∙ ap (λ (z : Node). z.live) same) ∙ live))

      -- it goes through
      done_so : (u : World) → u.lines ≡ v.lines → u.event ≡ v.event → u.nodes ≡ v.nodes → ShowsHeld st x w (done_step k one u)
      done_so u lines event nodes =
          let bs = bodies k (length u.frames) one.outs in
          let r = said_ups st w.event x w k (length u.frames) one.outs f.0 so_far (live_far k m is up) in
          put_so one.outs (set_node k one.after u) lines event
          (λ j p there. set_same w v k m one.after is (ap (λ (z : Node). z.number) f.2) (ap (λ (z : Node). z.disk) f.2) s.same j p
          (ap (λ ns. at_place j (set_place k one.after ns)) (sym nodes) ∙ there)) bs refl
          (bodies_so x w k (length u.frames) one.outs f.0) r.0
          (λ j p there live. put_live one.after f.2 bs r.1 j p (ap (λ ns. at_place j (set_place k one.after ns)) (sym nodes) ∙ there) live)

      halt_so : (c : ℕ) (how : Stop) → ShowsHeld st x w (halted_at k m (cut c how one.halting m.disk) (disarmed k v))
      halt_so c how =
          let z = cut c how one.halting m.disk in
          let h = cut_so x w k c how one.halting m.disk f.1 in
          let q : Node = record m { disk = z.disk; live = None } in
          let bs = bodies k (length v.frames) z.outs in
          let r = said_ups st w.event x w k (length v.frames) z.outs h.0 so_far (live_far k m is up) in
          put_so (halted_outs k z) (set_node k q (disarmed k v)) refl refl
          (set_same w v k m q is refl h.1 s.same) (bs ++ body.Halted k ∷ [])
          (bodies_both x w k (length v.frames) z.outs (Say (body.Halted k) ∷ []) h.0)
          (all_append (IsHeldLine x w) bs (body.Halted k ∷ []) (bodies_so x w k (length v.frames) z.outs h.0) (tt, tt))
          (ups_both st w.event so_far bs (body.Halted k ∷ []) r.0 (tt, tt))
          (gone_live q refl (bs ++ body.Halted k ∷ []) (λ j off.
          ap (λ ls. is_down st (so_far ++ ls) j) (map-append (λ (b : Body). record { event = w.event; body = b }) bs (body.Halted k ∷ []))
          ∙ ap (λ ls. is_down st ls j) (sym (append_assoc so_far (numbered w.event bs) (numbered w.event (body.Halted k ∷ []))))
          ∙ halt_down st w.event k (so_far ++ numbered w.event bs) j off ∙ r.1 j))

      step_so : (o : Option Arm) → ShowsHeld st x w (step_with k m one v o)
      step_so None = done_so v refl refl refl
      step_so (Some a) = by (nat_lt (count_works one.halting) a.works)
        where
          by : (b : Bool) → ShowsHeld st x w (cond b (done_step k one (armed k (record a { works = a.works - count_works one.halting }) v))
              (halted_at k m (cut (a.works - 1) a.how one.halting m.disk) (disarmed k v)))
          by true = done_so (armed k (record a { works = a.works - count_works one.halting }) v) refl refl refl
          by false = halt_so (a.works - 1) a.how

    up_so : ShowsHeld st x w (show_up x k v)
    up_so = by (is_up_at k v) refl
      where
        at : (o : Option Node) → at_place k v.nodes ≡ o → is_up o ≡ true → ShowsHeld st x w (step_node k (input.Show x) v o)
        at None is up = s
        at (Some m) is up = step_so m is up (step v.header m (input.Show x)) (step_fits m is) (at_number k v.arms)

        by : (b : Bool) → is_up_at k v ≡ b → ShowsHeld st x w (cond b (steps k (input.Show x) v) v)
        by true up = at (at_place k v.nodes) refl up
        by false off = s

  each_so : (ns : List ℕ) (v : World) → ShowsHeld st x w v → ShowsHeld st x w (show_all x ns v)
  each_so [] v s = s
  each_so (k ∷ ns) v s = each_so ns (show_up x k v) (up_so k v s)

  pub held_all : ((j : ℕ) (m : Node) → at_place j w.nodes ≡ Some m → is_some m.live ≡ true → is_down st w.lines j ≡ false) → (ns : List ℕ) →
      ShowsHeld st x w (show_all x ns w)
  held_all live ns = each_so ns w (record {
    added = [];
    lines = sym (append-nil w.lines);
    event = refl;
    has = tt;
    ups = tt;
    same = λ k m is. (m, is, refl, refl);
    live = live;
  })
