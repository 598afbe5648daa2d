-- Lines that tell of stops, over one call and over several.
use Rattle.std.proofs.Common.{◌≡◌, ◌∙◌, ◌+◌, ◌-◌, ◌≤◌, ◌<◌, ◌==◌, ◌&&◌, ℕ, zero, suc, Bool, true, false, not, List, [], ◌∷◌, ◌++◌, map}
use Rattle.std.proofs.Common.{refl, sym, ap, subst, Option, Some, None, arith}
use Rattle.std.specs.Prelude.{OnOk, Result, if◌then◌else◌, is_some, nat_le, slice_get, slice_set}
use Rattle.std.specs.List.{list_all}
use Rattle.std.proofs.lemmas.Bool.{and_parts}
use Rattle.std.proofs.lemmas.List.{append-nil, append_assoc, length-set, map-append}
use Rattle.arj_base.specs.Count.{Rose}
use Rattle.arj_core.specs.declared.node.Core.{Ghosts as core_ghosts}
use Rattle.arj_core.specs.declared.output.Output.{Output}
use Rattle.arj_core.specs.Steps.{Did, PutsOut, WasCut, seen, seen_of}
use Rattle.arj_disk.specs.FileMap.{FileMap}
use Rattle.arj_disk.specs.declared.disk.Disk.{Ghosts}
use Rattle.arj_law_parts.proofs.steps.NoHalts.{crash_own, step_both}
use Rattle.arj_law_parts.specs.steps.Halts.{halted_node, is_crash, is_no_halt, is_only, says_no_halt, says_own_halt}
use Rattle.arj_journal.specs.declared.body.Line.{Line}
use Rattle.arj_journal.specs.declared.header.Header.{Header}
use Rattle.arj_protocol.specs.Ask.{frame_kind}
use Rattle.arj_protocol.specs.Effect as effect
use Rattle.arj_protocol.specs.Effect.{Effect, Say, Send, Do, Stop, worked}
use Rattle.arj_protocol.specs.Step as input
use Rattle.arj_protocol.specs.Node.{Parts}
use Rattle.arj_protocol.specs.Step.{Node, Input, refusal, step, step_of, step_unless}
use Rattle.arj_protocol.specs.Words.{Body, Event, FrameKind}
use Rattle.arj_protocol.specs.Words.body
use Rattle.arj_protocol.specs.World.{count_works, cut, numbered, sent_line}
use Rattle.arj_world.specs.Stands.{Hand, StandsSome}
use Rattle.arj_world.specs.Tells.{IsToldBy, TellsStops, crashed_at, crashed_by, halts, is_this, nobody}
use Rattle.arj_world.specs.Wire.{dropped_line, seen_bodies}
use Rattle.arj_world.proofs.Disks.{set_here, set_other, some_one, within}
use Rattle.arj_world.proofs.Stepping.{is_there}
use Rattle.arj_start.specs.Limits.{most_frames}

-- ---- lines that say of a node that it halted

pub halts_both : (n : ℕ) (xs ys : List Line) → halts n (xs ++ ys) ≡ halts n xs + halts n ys
halts_both n [] ys = omega arith
halts_both n (x ∷ xs) ys = let rest = halts_both n xs ys in omega (arith, rest)

-- another line doesn't
pub other_line : (n ev : ℕ) (b : Body) → is_this n (halted_node b) ≡ false → halts n (numbered ev (b ∷ [])) ≡ 0
other_line n ev b isnt = λ i. (if isnt i then 1 else 0) + 0

-- a line of a frame doesn't
pub frame_line : (n ev k from to : ℕ) (what : FrameKind) → halts n (numbered ev (sent_line k from to what ++ [])) ≡ 0
frame_line n ev k from to what = by (nat_le k most_frames)
  where
    by : (b : Bool) → halts n (numbered ev ((if b then body.Sent k from to what ∷ [] else []) ++ [])) ≡ 0
    by true = refl
    by false = refl

pub lost_line : {A : Type 0} (n ev k : ℕ) (o : Option A) → halts n (numbered ev (dropped_line k o)) ≡ 0
lost_line n ev k None = refl
lost_line n ev k (Some f) = refl

-- of effects none does for which this test holds of each
calm_seen : (n : ℕ) (test : Effect → Bool) → ((b : Body) → test (Say b) ≡ true → is_this n (halted_node b) ≡ false)
    → (node k ev : ℕ) (es : List Effect) → list_all test es ≡ true → halts n (numbered ev (seen_bodies node k (seen es))) ≡ 0
calm_seen n test calm node k ev [] all = refl
calm_seen n test calm node k ev (Say b ∷ es) all =
    let own = and_parts (test (Say b)) (list_all test es) all in
    let isnt = calm b own.0 in
    let rest = calm_seen n test calm node k ev es own.1 in
    λ i. (if isnt i then 1 else 0) + rest i
calm_seen n test calm node k ev (Do w ∷ es) all = calm_seen n test calm node k ev es (and_parts (test (Do w)) (list_all test es) all).1
calm_seen n test calm node k ev (Send to m ∷ es) all =
    let rest = calm_seen n test calm node (k + 1) ev es (and_parts (test (Send to m)) (list_all test es) all).1 in
    let sent = sent_line (k + 1) node to (frame_kind m) in
    ap (halts n) (map-append _ sent (seen_bodies node (k + 1) (seen es))) ∙ (halts_both n (numbered ev sent) (numbered ev (seen_bodies node (k + 1) (seen es))) ∙ omega (arith, rest, none (nat_le (k + 1) most_frames)))
  where
    none : (b : Bool) → halts n (numbered ev (if b then body.Sent (k + 1) node to (frame_kind m) ∷ [] else [])) ≡ 0
    none true = refl
    none false = refl

not_this : (n : ℕ) (o : Option ℕ) → not (is_some o) ≡ true → is_this n o ≡ false
not_this n None isnt = refl
not_this n (Some m) isnt = absurd (cc isnt)

not_other : (n k : ℕ) (o : Option ℕ) → (n == k) ≡ false → is_only k o ≡ true → is_this n o ≡ false
not_other n k None apart only = refl
not_other n k (Some m) apart only =
    let same : m ≡ k = grind (arith, only) in subst (λ x. (x == n) ≡ false) (sym same) (grind (arith, apart))

-- what a stop leaves of effects
pub cut_all : (test : Effect → Bool) (k : ℕ) (how : Stop) (es : List Effect) (d : effect.Disk) → list_all test es ≡ true →
    list_all test (cut k how es d).outs ≡ true
cut_all test k how [] d all = refl
cut_all test zero how (Do w ∷ es) d all = refl
cut_all test (suc k) how (Do w ∷ es) d all =
    let own = and_parts (test (Do w)) (list_all test es) all in λ i. own.0 i && cut_all test k how es (worked w d) own.1 i
cut_all test zero how (Say b ∷ es) d all =
    let own = and_parts (test (Say b)) (list_all test es) all in λ i. own.0 i && cut_all test zero how es d own.1 i
cut_all test (suc k) how (Say b ∷ es) d all =
    let own = and_parts (test (Say b)) (list_all test es) all in λ i. own.0 i && cut_all test (suc k) how es d own.1 i
cut_all test zero how (Send to m ∷ es) d all =
    let own = and_parts (test (Send to m)) (list_all test es) all in λ i. own.0 i && cut_all test zero how es d own.1 i
cut_all test (suc k) how (Send to m ∷ es) d all =
    let own = and_parts (test (Send to m)) (list_all test es) all in λ i. own.0 i && cut_all test (suc k) how es d own.1 i

-- a node that is asked something says of none that it halted, but of itself where it is crashed
calm_step : (n node k ev : ℕ) (hd : Header) (m : Node) (i : Input) → m.number ≡ node → crashed_at node i n ≡ false
    → ((es : List Effect) → es ≡ (step hd m i).outs → halts n (numbered ev (seen_bodies node k (seen es))) ≡ 0)
    × ((w : ℕ) (how : Stop) → halts n (numbered ev (seen_bodies node k (seen (cut w how (step hd m i).halting m.disk).outs))) ≡ 0)
calm_step n node k ev hd m i number isnt = by i (is_crash i) refl isnt
  where
    asked : (i : Input) → is_crash i ≡ false →
        ((es : List Effect) → es ≡ (step hd m i).outs → halts n (numbered ev (seen_bodies node k (seen es))) ≡ 0)
        × ((w : ℕ) (how : Stop) → halts n (numbered ev (seen_bodies node k (seen (cut w how (step hd m i).halting m.disk).outs))) ≡ 0)
    asked i safe =
        let both = step_both hd m i safe in
        let calm : (b : Body) → is_no_halt b ≡ true → is_this n (halted_node b) ≡ false = λ b is. not_this n (halted_node b) is in (
          λ es is. calm_seen n says_no_halt calm node k ev es (subst (λ xs. list_all says_no_halt xs ≡ true) (sym is) both.0),
          λ w how. calm_seen n says_no_halt calm node k ev (cut w how (step hd m i).halting m.disk).outs (cut_all says_no_halt w how (step hd m i).halting m.disk both.1),
        )

    by : (i : Input) (b : Bool) → is_crash i ≡ b → (is_crash i && (n == node)) ≡ false →
        ((es : List Effect) → es ≡ (step hd m i).outs → halts n (numbered ev (seen_bodies node k (seen es))) ≡ 0)
        × ((w : ℕ) (how : Stop) → halts n (numbered ev (seen_bodies node k (seen (cut w how (step hd m i).halting m.disk).outs))) ≡ 0)
    by i false safe isnt = asked i safe
    by input.Crash true is isnt =
        let both = crash_own hd m in
        let apart : (n == m.number) ≡ false = subst (λ x. (n == x) ≡ false) (sym number) isnt in
        let calm : (b : Body) → is_only m.number (halted_node b) ≡ true → is_this n (halted_node b) ≡ false =
        λ b only. not_other n m.number (halted_node b) apart only in (
          λ es is. calm_seen n (says_own_halt m.number) calm node k ev es (subst (λ xs. list_all (says_own_halt m.number) xs ≡ true) (sym is) both.0),
          λ w how. calm_seen n (says_own_halt m.number) calm node k ev (cut w how (step hd m input.Crash).halting m.disk).outs (cut_all (says_own_halt m.number) w how (step hd m input.Crash).halting m.disk both.1),
        )
    by (input.Begin l c p) true is isnt = absurd (cc is)
    by (input.Call l x o) true is isnt = absurd (cc is)
    by (input.Include l x s) true is isnt = absurd (cc is)
    by (input.Commit l) true is isnt = absurd (cc is)
    by (input.Abort l) true is isnt = absurd (cc is)
    by (input.GiveUp l) true is isnt = absurd (cc is)
    by (input.Frame j from x) true is isnt = absurd (cc is)
    by input.Tick true is isnt = absurd (cc is)
    by input.Restart true is isnt = absurd (cc is)
    by (input.Show x) true is isnt = absurd (cc is)

-- no stop cuts a crash
crash_unworked : (hd : Header) (m : Node) (i : Input) → is_crash i ≡ true → count_works (step hd m i).halting ≡ 0
crash_unworked hd m input.Crash is = by (refusal hd input.Crash m)
  where
    live : (o : Option Parts) → count_works (step_of hd input.Crash m o).halting ≡ 0
    live None = refl
    live (Some t) = refl

    by : (r : Option ℕ) → count_works (step_unless hd input.Crash m r).halting ≡ 0
    by (Some c) = refl
    by None = live m.live
crash_unworked hd m (input.Begin l c p) is = absurd (cc is)
crash_unworked hd m (input.Call l x o) is = absurd (cc is)
crash_unworked hd m (input.Include l x s) is = absurd (cc is)
crash_unworked hd m (input.Commit l) is = absurd (cc is)
crash_unworked hd m (input.Abort l) is = absurd (cc is)
crash_unworked hd m (input.GiveUp l) is = absurd (cc is)
crash_unworked hd m (input.Frame j from x) is = absurd (cc is)
crash_unworked hd m input.Tick is = absurd (cc is)
crash_unworked hd m input.Restart is = absurd (cc is)
crash_unworked hd m (input.Show x) is = absurd (cc is)

-- no other node than the one that takes the input is crashed
crashed_other : (node n : ℕ) (i : Input) → (n == node) ≡ false → crashed_at node i n ≡ false
crashed_other node n i apart = by (is_crash i)
  where
    by : (b : Bool) → (b && (n == node)) ≡ false
    by true = apart
    by false = refl

is_crashed : (node n : ℕ) (i : Input) → crashed_at node i n ≡ true → is_crash i ≡ true
is_crashed node n i is = (and_parts (is_crash i) (n == node) is).0

-- lines of which none tells of a stop
uncounted : (b : Bool) (lines : ℕ) → lines ≡ 0 → (if b then 0 else lines) ≡ 0
uncounted true lines none = refl
uncounted false lines none = none

-- lines behind lines
pub told_then : (some more a b c : ℕ) → IsToldBy some a b → IsToldBy more b c → IsToldBy (some + more) a c
told_then some more a b c x y = record {
  later = omega (arith, x.later, y.later);
  rose = λ less. let first = x.rose (omega (arith, y.later, less)) in let second = y.rose less in omega (arith, first, second);
  only = λ none. y.only (omega (arith, none)) ∙ x.only (omega (arith, none));
}

module _ {D : Type 0} (disk : Ghosts D) where
  -- a disk that was not called is told by no line
  untold : (d e : D) (lines : ℕ) → d ≡ e → lines ≡ 0 → IsToldBy lines (disk.stops d) (disk.stops e)
  untold d e lines same none =
      subst (λ x. IsToldBy lines (disk.stops d) (disk.stops x)) same (record {
        later = omega arith;
        rose = λ less. omega (arith, none);
        only =
            λ is. refl;
      })

  -- no call at all
  pub tells_none : (nodes : ℕ) (crashed : ℕ → Bool) (disks : List D) (journal : List Line) →
      TellsStops disk nodes crashed disks disks journal journal
  tells_none nodes crashed disks journal = (
    [],
    sym (append-nil journal),
    record {
      count = refl;
      each = λ i d e at then_at. untold d e (if crashed (i + 1) then 0 else 0) (some_one d e (sym at ∙ then_at)) (uncounted (crashed (i + 1)) 0 refl);
      others = λ n none. refl;
    },
  )

  -- one behind the other
  pub tells_then : (n m : ℕ) (first second third : List D) (before between after : List Line) → m ≡ n →
      TellsStops disk n nobody first second before between → TellsStops disk m nobody second third between after
      → TellsStops disk n nobody first third before after
  tells_then n m first second third before between after same (some, are, a) (more, are_then, b) = (
    some ++ more,
    are_then ∙ (ap (λ ls. ls ++ more) are ∙ append_assoc before some more),
    record {
      count = b.count ∙ a.count;
      each = λ i d e at_first at_third.
          let k = is_there i second (omega (arith, a.count, within i d first at_first)) in
          let x : IsToldBy (halts (i + 1) some) (disk.stops d) (disk.stops k.0) = a.each i d k.0 at_first k.1 in
          let y : IsToldBy (halts (i + 1) more) (disk.stops k.0) (disk.stops e) = b.each i k.0 e k.1 at_third in
          subst (λ k. IsToldBy k (disk.stops d) (disk.stops e)) (sym (halts_both (i + 1) some more)) (told_then (halts (i + 1) some) (halts (i + 1) more) (disk.stops d) (disk.stops k.0) (disk.stops e) x y);
      others = λ k none. halts_both k some more ∙ omega (arith, a.others k none, b.others k (λ low high. none low (omega (arith, high, same))));
    },
  )

  -- a line behind it that says of no node that it halted
  pub tells_line : (nodes : ℕ) (crashed : ℕ → Bool) (old new : List D) (before after longer : List Line) (more : List Line) →
      ((n : ℕ) → halts n more ≡ 0) → longer ≡ after ++ more
      → TellsStops disk nodes crashed old new before after → TellsStops disk nodes crashed old new before longer
  tells_line nodes crashed old new before after longer more none are (added, were, t) = (
    added ++ more,
    are ∙ (ap (λ ls. ls ++ more) were ∙ append_assoc before added more),
    record {
      count = t.count;
      each = λ i d e at then_at. subst (λ k. IsToldBy (if crashed (i + 1) then 0 else k) (disk.stops d) (disk.stops e)) (same (i + 1)) (t.each i d e at then_at);
      others = λ n out. sym (same n) ∙ t.others n out;
    },
  )
    where
      same : (n : ℕ) → halts n added ≡ halts n (added ++ more)
      same n = omega (arith, none n, halts_both n added more)

  -- a node's disk is told by lines, and the lines tell of no other
  pub tells_at : (nodes : ℕ) (crashed : ℕ → Bool) (node : ℕ) (disks : List D) (d e : D) (before after added : List Line) → 1 ≤ node →
      node ≤ nodes → slice_get disks (node - 1) ≡ Some d → after ≡ before ++ added
      → IsToldBy (if crashed node then 0 else halts node added) (disk.stops d) (disk.stops e) →
      ((n : ℕ) → (n == node) ≡ false → halts n added ≡ 0) →
      TellsStops disk nodes crashed disks (slice_set disks (node - 1) e) before after
  tells_at nodes crashed node disks d e before after added low high at are own others = (
    added,
    are,
    record {
      count = length-set disks (node - 1) e;
      each = λ i x y at_x at_y. by i x y at_x at_y ((i + 1) == node) refl;
      others = λ n out. others n (apart n out (n == node) refl);
    },
  )
    where
      apart : (n : ℕ) → (1 ≤ n → n ≤ nodes → ⊥) → (b : Bool) → (n == node) ≡ b → (n == node) ≡ false
      apart n out false is = is
      apart n out true is = let same : n ≡ node = grind (arith, is) in absurd (out (omega (arith, same, low)) (omega (arith, same, high)))

      by : (i : ℕ) (x y : D) → slice_get disks i ≡ Some x → slice_get (slice_set disks (node - 1) e) i ≡ Some y → (b : Bool) →
          ((i + 1) == node) ≡ b → IsToldBy (if crashed (i + 1) then 0 else halts (i + 1) added) (disk.stops x) (disk.stops y)
      by i x y at_x at_y true is =
          let number : i + 1 ≡ node = grind (arith, is) in
          let same : i ≡ node - 1 = omega (arith, number) in
          let old : d ≡ x = some_one d x (sym at ∙ ap (slice_get disks) (sym same) ∙ at_x) in
          let new : e ≡ y = set_here (node - 1) e d y disks at (ap (slice_get (slice_set disks (node - 1) e)) (sym same) ∙ at_y) in
          subst (λ z. IsToldBy (if crashed (i + 1) then 0 else halts (i + 1) added) (disk.stops z) (disk.stops y)) old
          (subst (λ z. IsToldBy (if crashed (i + 1) then 0 else halts (i + 1) added) (disk.stops d) (disk.stops z)) new
          (subst (λ n. IsToldBy (if crashed n then 0 else halts n added) (disk.stops d) (disk.stops e)) (sym number) own))
      by i x y at_x at_y false is =
          let elsewhere : i ≡ node - 1 → ⊥ = λ same. grind (arith, is, same, low) in
          untold x y (if crashed (i + 1) then 0 else halts (i + 1) added) (some_one x y (sym at_x ∙ sym (set_other (node - 1) i e disks elsewhere) ∙ at_y)) (uncounted (crashed (i + 1)) (halts (i + 1) added) (others (i + 1) is))

  -- a disk was armed, and a line says so
  pub tells_armed : (nodes node : ℕ) (disks : List D) (d e : D) (before after : List Line) (ev : ℕ) (b : Body) → 1 ≤ node → node ≤ nodes →
      slice_get disks (node - 1) ≡ Some d → disk.stops e ≡ disk.stops d
      → halted_node b ≡ None → after ≡ before ++ numbered ev (b ∷ []) →
      TellsStops disk nodes nobody disks (slice_set disks (node - 1) e) before after
  tells_armed nodes node disks d e before after ev b low high at stops isnt are =
      let none : (n : ℕ) → halts n (numbered ev (b ∷ [])) ≡ 0 = λ n. other_line n ev b (ap (is_this n) isnt) in
      tells_at nodes nobody node disks d e before after (numbered ev (b ∷ [])) low high at are
      (record { later = omega (arith, stops); rose = λ less. omega (arith, stops, none node); only = λ is. stops })
      (λ n apart. none n)

  -- the event that was given is this one
  pub tells_of : {E : Type 0} (r : Result (Unit {0}) E) (nodes : ℕ) (e given : Event) (old new : List D) (before after : List Line) →
      given ≡ e → OnOk r (TellsStops disk nodes (crashed_by e) old new before after)
      → OnOk r (TellsStops disk nodes (crashed_by given) old new before after)
  tells_of r nodes e given old new before after is tells =
      subst (λ x. OnOk r (TellsStops disk nodes (crashed_by x) old new before after)) (sym is) tells

  module _ {C : Type 0} (core : core_ghosts C) (file : D → FileMap) where
    -- the node that a core is, by its number
    node_there : (node : ℕ) (c : C) (d : D) (old : Hand C D) → 1 ≤ node → node ≤ old.kept.header.nodes →
        slice_get old.kept.cores (node - 1) ≡ Some c → slice_get old.disks (node - 1) ≡ Some d
        → StandsSome core file old → (n : Node) × core.stands old.kept.header c (file d) n × (n.number ≡ node)
    node_there node c d old low high at_core at_disk some =
        let w = some.0 in
        let st = some.1 in
        let there = is_there (node - 1) w.nodes (omega (arith, low, high, st.nodes.nodes_count)) in
        (there.0, st.nodes.each (node - 1) c d there.0 at_core at_disk there.1, st.nodes.numbers (node - 1) there.0 there.1 ∙ omega (arith, low))

    seen_all : (es : List Effect) (out : List Output) → PutsOut es [] out → map seen_of out ≡ seen es
    seen_all es out puts = ap (map seen_of) puts.are ∙ puts.seen_so

    -- a step was done: it was not stopped, and no line says that a node halted, but where it is crashed
    pub tells_done : (node : ℕ) (i : Input) (c c' : C) (d e : D) (old : Hand C D) (out : List Output) (after : List Line) (ev k : ℕ)
        → 1 ≤ node → node ≤ old.kept.header.nodes → slice_get old.kept.cores (node - 1) ≡ Some c → slice_get old.disks (node - 1) ≡ Some d →
        StandsSome core file old
        → ((h : Header) (n : Node) → core.stands h c (file d) n → Did (core.stands h c' (file e)) (step h n i) [] out) →
        disk.stops e ≡ disk.stops d
        → after ≡ old.journal ++ numbered ev (seen_bodies node k (map seen_of out))
        → TellsStops disk old.kept.header.nodes (crashed_at node i) old.disks (slice_set old.disks (node - 1) e) old.journal after
    tells_done node i c c' d e old out after ev k low high at_core at_disk some done stops lines =
        let n = node_there node c d old low high at_core at_disk some in
        let did = done old.kept.header n.0 n.1 in
        let added = numbered ev (seen_bodies node k (seen (step old.kept.header n.0 i).outs)) in
        let are = lines ∙ ap (λ es. old.journal ++ numbered ev (seen_bodies node k es)) (seen_all (step old.kept.header n.0 i).outs out did.outs) in
        let none : (m : ℕ) → crashed_at node i m ≡ false → halts m added ≡ 0 =
        λ m safe. (calm_step m node k ev old.kept.header n.0 i n.2 safe).0 (step old.kept.header n.0 i).outs refl in
        tells_at old.kept.header.nodes (crashed_at node i) node old.disks d e old.journal after added low high at_disk are
        (steady (if crashed_at node i node then 0 else halts node added) (told added (crashed_at node i node) refl none))
        (λ m apart. none m (crashed_other node m i apart))
      where
        steady : (lines : ℕ) → lines ≡ 0 → IsToldBy lines (disk.stops d) (disk.stops e)
        steady lines is = record { later = omega (arith, stops); rose = λ less. omega (arith, stops, is); only = λ is. stops }

        told : (added : List Line) (b : Bool) → crashed_at node i node ≡ b → ((m : ℕ) → crashed_at node i m ≡ false → halts m added ≡ 0) →
            (if b then 0 else halts node added) ≡ 0
        told added true is none = refl
        told added false is none = none node is

    -- a stop cut the step, and a line says that the node halted
    pub tells_cut : (node : ℕ) (i : Input) (c c' : C) (d e : D) (old : Hand C D) (out : List Output) (between after : List Line) (ev ev' k : ℕ)
        → 1 ≤ node → node ≤ old.kept.header.nodes → slice_get old.kept.cores (node - 1) ≡ Some c → slice_get old.disks (node - 1) ≡ Some d →
        StandsSome core file old
        → ((h : Header) (n : Node) → core.stands h c (file d) n → WasCut (core.stands h c' (file e)) n (step h n i) [] out) →
        Rose (disk.stops d) (disk.stops e) → disk.stops d ≤ disk.stops e
        → between ≡ old.journal ++ numbered ev (seen_bodies node k (map seen_of out)) →
        after ≡ between ++ numbered ev' (body.Halted node ∷ [])
        → TellsStops disk old.kept.header.nodes (crashed_at node i) old.disks (slice_set old.disks (node - 1) e) old.journal after
    tells_cut node i c c' d e old out between after ev ev' k low high at_core at_disk some cuts rose later lines line =
        let n = node_there node c d old low high at_core at_disk some in
        let was = cuts old.kept.header n.0 n.1 in
        let es = (cut was.work was.how (step old.kept.header n.0 i).halting n.0.disk).outs in
        let front = numbered ev (seen_bodies node k (seen es)) in
        let last = numbered ev' (body.Halted node ∷ []) in
        let are : after ≡ old.journal ++ (front ++ last) =
        line ∙ (ap (λ ls. ls ++ last) (lines ∙ ap (λ xs. old.journal ++ numbered ev (seen_bodies node k xs)) (seen_all es out was.outs)) ∙ append_assoc old.journal front last) in
        let safe : (b : Bool) → crashed_at node i node ≡ b → crashed_at node i node ≡ false =
        λ b. elim b as (λ b. crashed_at node i node ≡ b → crashed_at node i node ≡ false) [
          | false ↦ λ is. is
          | true ↦ λ is. absurd (omega (arith, was.within, crash_unworked old.kept.header n.0 i (is_crashed node node i is)))
        ] in
        let none : (m : ℕ) → crashed_at node i m ≡ false → halts m front ≡ 0 =
        λ m safe. (calm_step m node k ev old.kept.header n.0 i n.2 safe).1 was.work was.how in
        let up : crashed_at node i node ≡ false = safe (crashed_at node i node) refl in
        let one : halts node last ≡ 1 = own node in
        let both = halts_both node front last in
        let all : (if crashed_at node i node then 0 else halts node (front ++ last)) ≡ 1 =
        (λ j. if up j then 0 else halts node (front ++ last)) ∙ omega (arith, one, both, none node up) in
        tells_at old.kept.header.nodes (crashed_at node i) node old.disks d e old.journal after (front ++ last) low high at_disk are
        (record {
          later = later;
          rose = λ less. let rises : disk.stops d < disk.stops e = rose (omega (arith, later, less)) in omega (arith, rises, all);
          only = λ is. absurd (omega (arith, is, all));
        })
        (λ m apart. halts_both m front last ∙ omega (arith, none m (crashed_other node m i apart), other m apart))
      where
        own : (n : ℕ) → halts n (numbered ev' (body.Halted n ∷ [])) ≡ 1
        own n = let same : (n == n) ≡ true = grind arith in λ i. (if same i then 1 else 0) + 0

        other : (m : ℕ) → (m == node) ≡ false → halts m (numbered ev' (body.Halted node ∷ [])) ≡ 0
        other m apart = other_line m ev' (body.Halted node) (grind (arith, apart))
