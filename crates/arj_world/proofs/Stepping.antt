-- What a core's step makes of a world in hand.
use Rattle.std.proofs.Common.{◌≡◌, ◌≢◌, inl, inr, ℕ, zero, suc, ◌+◌, ◌-◌, ◌≤◌, ◌<◌, ◌==◌, Bool, true, false, ◌||◌, List, [], ◌∷◌, ◌++◌}
use Rattle.std.proofs.Common.{length, map, refl, ap, sym, ◌∙◌, subst, Some, None, arith}
use Rattle.std.specs.Prelude.{slice_get, slice_set}
use Rattle.std.proofs.lemmas.List.{append_assoc, map-append, length-set}
use Rattle.arj_core.specs.declared.node.Core.{Ghosts}
use Rattle.arj_core.specs.declared.output.Output.{Output}
use Rattle.arj_core.specs.declared.output.Output.TheVariants as output
use Rattle.arj_core.specs.Steps as steps
use Rattle.arj_core.specs.Steps.{Did, Seen, Said, WasCut, seen, seen_of}
use Rattle.arj_law_parts.proofs.steps.Whole.{step_number}
use Rattle.arj_net.specs.declared.net.Sent.{Sent}
use Rattle.arj_protocol.specs.Ask.{frame_kind}
use Rattle.arj_disk.specs.FileMap.{FileMap}
use Rattle.arj_journal.specs.declared.body.Line.{Line}
use Rattle.arj_journal.specs.declared.header.Header.{Header}
use Rattle.arj_protocol.specs.Effect.{Effect, Say, Send, Do}
use Rattle.arj_protocol.specs.Step.{Node, Input, step}
use Rattle.arj_protocol.specs.Words.{Body}
use Rattle.arj_protocol.specs.Words.body
use Rattle.arj_protocol.specs.World.{World, Cut, bodies, cut, count_works, done_step, halted_at, halted_outs, frames_with, numbered}
use Rattle.arj_protocol.specs.World.{overflows, put, sends, sent_line, new_frame, set_node}
use Rattle.arj_world.specs.Goes.{StepsTo}
use Rattle.arj_world.specs.Stands.{AreNodes, Hand, Kept, Stands, StandsSome}
use Rattle.arj_world.specs.Wire.{Put, frame_of, put_seen, seen_bodies, seen_frames}
use Rattle.arj_world.proofs.Wires.{bodies_seen, frames_seen, lines_both}

-- ---- nodes by place

-- an item put at a place is there
set_here : {A : Type 0} (i : ℕ) (a : A) (items : List A) (b : A) → slice_get items i ≡ Some b → slice_get (slice_set items i a) i ≡ Some a
set_here i a [] b at = absurd (cc at)
set_here zero a (x ∷ xs) b at = refl
set_here (suc i) a (x ∷ xs) b at = set_here i a xs b at

-- and leaves the others
set_other : {A : Type 0} (i j : ℕ) (a : A) (items : List A) → j ≢ i → slice_get (slice_set items i a) j ≡ slice_get items j
set_other i j a [] h = refl
set_other zero zero a (x ∷ xs) h = absurd (h refl)
set_other zero (suc j) a (x ∷ xs) h = refl
set_other (suc i) zero a (x ∷ xs) h = refl
set_other (suc i) (suc j) a (x ∷ xs) h = set_other i j a xs (λ e. h (ap suc e))

-- within the list there is one
pub is_there : {A : Type 0} (i : ℕ) (items : List A) → i < length items → (a : A) × (slice_get items i ≡ Some a)
is_there i [] h = absurd (omega (arith, h))
is_there zero (x ∷ xs) h = (x, refl)
is_there (suc i) (x ∷ xs) h = is_there i xs (omega (arith, h))

some_one : {A : Type 0} (a b : A) → Some a ≡ Some b → a ≡ b
some_one a b is = cc is

module _ {C D : Type 0} (core : Ghosts C) (file : D → FileMap) where
  -- one core with its disk and its node changed
  pub nodes_set : (h : Header) (cores : List C) (disks : List D) (nodes : List Node) (i : ℕ) (c c' : C) (d d' : D) (n n' : Node)
      → AreNodes core file h cores disks nodes → slice_get cores i ≡ Some c → slice_get disks i ≡ Some d → slice_get nodes i ≡ Some n
      → core.stands h c' (file d') n' → n'.number ≡ n.number →
      AreNodes core file h (slice_set cores i c') (slice_set disks i d') (slice_set nodes i n')
  nodes_set h cores disks nodes i c c' d d' n n' are at_core at_disk at_node stands number = record {
    cores_count = length-set cores i c' ∙ are.cores_count;
    nodes_count = length-set nodes i n' ∙ are.nodes_count;
    disks_count = omega (arith, are.disks_count, length-set disks i d');
    numbers = numbers;
    each = each;
  }
    where
      numbers : (j : ℕ) (m : Node) → slice_get (slice_set nodes i n') j ≡ Some m → m.number ≡ j + 1
      numbers j m node_is = by (j == i) refl
        where
          by : (b : Bool) → (j == i) ≡ b → m.number ≡ j + 1
          by true same =
              let e : i ≡ j = grind (arith, same) in
              let new : n' ≡ m = some_one n' m (sym (set_here i n' nodes n at_node) ∙ ap (slice_get (slice_set nodes i n')) e ∙ node_is) in
              ap (λ (x : Node). x.number) (sym new) ∙ (number ∙ (are.numbers i n at_node ∙ ap (λ k. k + 1) e))
          by false other =
              let apart : j ≢ i = grind (arith, other) in
              are.numbers j m (sym (set_other i j n' nodes apart) ∙ node_is)

      each : (j : ℕ) (x : C) (y : D) (m : Node) → slice_get (slice_set cores i c') j ≡ Some x →
          slice_get (slice_set disks i d') j ≡ Some y → slice_get (slice_set nodes i n') j ≡ Some m → core.stands h x (file y) m
      each j x y m core_is disk_is node_is = by (j == i) refl
        where
          one : (j == i) ≡ true → i ≡ j
          one h = grind (arith, h)

          apart : (j == i) ≡ false → j ≢ i
          apart h = grind (arith, h)

          by : (b : Bool) → (j == i) ≡ b → core.stands h x (file y) m
          by true same =
              let e : i ≡ j = one same in
              let cores_same : c' ≡ x =
              some_one c' x (sym (set_here i c' cores c at_core) ∙ ap (slice_get (slice_set cores i c')) e ∙ core_is) in
              let disks_same : d' ≡ y =
              some_one d' y (sym (set_here i d' disks d at_disk) ∙ ap (slice_get (slice_set disks i d')) e ∙ disk_is) in
              let nodes_same : n' ≡ m =
              some_one n' m (sym (set_here i n' nodes n at_node) ∙ ap (slice_get (slice_set nodes i n')) e ∙ node_is) in
              subst (λ z. core.stands h z (file y) m) cores_same (subst (λ z. core.stands h c' (file z) m) disks_same (subst (λ z. core.stands h c' (file d') z) nodes_same stands))
          by false other =
              are.each j x y m (sym (set_other i j c' cores (apart other)) ∙ core_is) (sym (set_other i j d' disks (apart other)) ∙ disk_is) (sym (set_other i j n' nodes (apart other)) ∙ node_is)

  -- ---- one step

  -- the frames, lines and flag that a node's effects leave
  shows : (node : ℕ) (es : List Effect) (out : List Output) (k : Kept C) (journal : List Line) (p : Put)
      → map seen_of out ≡ seen es →
      p ≡ put_seen node k.event (map seen_of out) (record { frames = map frame_of k.net; lines = journal; full = k.full })
      → (p.frames ≡ frames_with (map frame_of k.net) (sends node es)) × (p.lines ≡ journal ++ numbered k.event (bodies node (length (map frame_of k.net)) es))
      × (p.full ≡ (k.full || overflows (map frame_of k.net) (sends node es)))
  shows node es out k journal p seen_so is =
      let frames : seen_frames node (map seen_of out) ≡ sends node es = ap (seen_frames node) seen_so ∙ sym (frames_seen node es) in
      let lines : seen_bodies node (length (map frame_of k.net)) (map seen_of out) ≡ bodies node (length (map frame_of k.net)) es =
      ap (seen_bodies node (length (map frame_of k.net))) seen_so ∙ sym (bodies_seen node (length (map frame_of k.net)) es) in (
        ap (λ (x : Put). x.frames) is ∙ ap (frames_with (map frame_of k.net)) frames,
        ap (λ (x : Put). x.lines) is ∙ ap (λ bs. journal ++ numbered k.event bs) lines,
        ap (λ (x : Put). x.full) is ∙ ap (λ fs. k.full || overflows (map frame_of k.net) fs) frames,
      )

  -- what a node puts out, where the world is another one in its nodes alone
  pub put_stands : (node : ℕ) (n' : Node) (es : List Effect) (out : List Output) (old new : Hand C D) (w : World) (p : Put)
      → Stands core file old w → new.kept.header ≡ old.kept.header → new.kept.labels ≡ old.kept.labels → new.kept.given ≡ old.kept.given → new.kept.event ≡ old.kept.event
      → map seen_of out ≡ seen es → record { frames = map frame_of new.kept.net; lines = new.journal; full = new.kept.full } ≡ p
      → p ≡ put_seen node old.kept.event (map seen_of out) (record {
        frames = map frame_of old.kept.net;
        lines = old.journal;
        full =
            old.kept.full;
      })
      → AreNodes core file new.kept.header new.kept.cores new.disks (set_node node n' w).nodes →
      Stands core file new (put node es (set_node node n' w))
  put_stands node n' es out old new w p st header labels given event seen_so shown_is is nodes =
      let all = shows node es out old.kept old.journal p seen_so is in
      record {
        header = st.header ∙ sym header;
        given = st.given ∙ sym given;
        frames = (λ i. frames_with (st.frames i) (sends node es)) ∙ sym all.0 ∙ sym (ap (λ (x : Put). x.frames) shown_is);
        lines = (λ i. st.lines i ++ numbered (st.event i) (bodies node (length (st.frames i)) es)) ∙ sym all.1 ∙ sym (ap (λ (x : Put). x.lines) shown_is);
        labels = st.labels ∙ sym labels;
        arms = st.arms;
        event = st.event ∙ sym event;
        full = (λ i. st.full i || overflows (st.frames i) (sends node es)) ∙ sym all.2 ∙ sym (ap (λ (x : Put). x.full) shown_is);
        over = st.over;
        nodes = nodes;
      }

  -- the hand after a step of a core
  abbrev pub stepped : ℕ → C → D → Hand C D → List Sent → List Line → Bool → Hand C D
  stepped place c' d' old net journal full = record {
    kept = record old.kept { cores = slice_set old.kept.cores place c'; net = net; full = full };
    disks = slice_set old.disks place d';
    journal = journal;
  }

  abbrev put_of : List Sent → List Line → Bool → Put
  put_of net journal full = record { frames = map frame_of net; lines = journal; full = full }

  -- the step was done
  done_at : (j : ℕ) (i : Input) (c c' : C) (d d' : D) (old : Hand C D) (net : List Sent) (journal : List Line) (full : Bool) (out : List Output)
      → j < old.kept.header.nodes → slice_get old.kept.cores j ≡ Some c → slice_get old.disks j ≡ Some d
      → ((h : Header) (n : Node) → core.stands h c (file d) n → Did (core.stands h c' (file d')) (step h n i) [] out)
      → put_of net journal full ≡ put_seen (suc j) old.kept.event (map seen_of out) (put_of old.kept.net old.journal old.kept.full)
      → StepsTo core file (suc j) i old (stepped j c' d' old net journal full)
  done_at j i c c' d d' old net journal full out high at_core at_disk done shown_is w st = record {
    node = n;
    here = there.1;
    went = inl (subst (λ hd. Stands core file new (done_step (suc j) (step hd n i) w)) (sym st.header) after);
  }
    where
      within : j < length w.nodes
      within = omega (arith, high, st.nodes.nodes_count)

      there : (m : Node) × (slice_get w.nodes j ≡ Some m)
      there = is_there j w.nodes within

      n : Node
      n = there.0

      new : Hand C D
      new = stepped j c' d' old net journal full

      did : Did (core.stands old.kept.header c' (file d')) (step old.kept.header n i) [] out
      did = done old.kept.header n (st.nodes.each j c d n at_core at_disk there.1)

      after : Stands core file new (done_step (suc j) (step old.kept.header n i) w)
      after = put_stands (suc j) (step old.kept.header n i).after (step old.kept.header n i).outs out old new w (put_of net journal full) st refl refl refl refl
          (ap (map seen_of) did.outs.are ∙ did.outs.seen_so) refl shown_is
          (nodes_set old.kept.header old.kept.cores old.disks w.nodes j c c' d d' n (step old.kept.header n i).after st.nodes at_core at_disk there.1 did.node (step_number old.kept.header n i))

  -- a node counts from 1, a place from 0
  pub done_to : (node : ℕ) (i : Input) (c c' : C) (d d' : D) (old : Hand C D) (net : List Sent) (journal : List Line) (full : Bool) (out : List Output)
      → 1 ≤ node → node ≤ old.kept.header.nodes → slice_get old.kept.cores (node - 1) ≡ Some c → slice_get old.disks (node - 1) ≡ Some d
      → ((h : Header) (n : Node) → core.stands h c (file d) n → Did (core.stands h c' (file d')) (step h n i) [] out)
      → put_of net journal full ≡ put_seen node old.kept.event (map seen_of out) (put_of old.kept.net old.journal old.kept.full)
      → StepsTo core file node i old (stepped (node - 1) c' d' old net journal full)
  done_to node i c c' d d' old net journal full out low high at_core at_disk done =
      subst (λ m. put_of net journal full ≡ put_seen m old.kept.event (map seen_of out) (put_of old.kept.net old.journal old.kept.full) →
      StepsTo core file m i old (stepped (node - 1) c' d' old net journal full))
      (omega (arith, low)) (done_at (node - 1) i c c' d d' old net journal full out (omega (arith, low, high)) at_core at_disk done)

  -- a line behind what was put out
  put_said : (n event : ℕ) (es : List Seen) (b : Body) (p : Put)
      → put_seen n event (es ++ Said b ∷ []) p ≡ record (put_seen n event es p) {
        lines =
            (put_seen n event es p).lines ++ numbered event (b ∷ []);
      }
  put_said n event es b p = λ i. record { frames = frames i; lines = lines i; full = full i }
    where
      same_frames : (xs : List Seen) → seen_frames n (xs ++ Said b ∷ []) ≡ seen_frames n xs
      same_frames [] = refl
      same_frames (Said a ∷ xs) = same_frames xs
      same_frames (steps.Sent to k m ∷ xs) = ap (λ fs. new_frame n to m ∷ fs) (same_frames xs)

      more_bodies : (k : ℕ) (xs : List Seen) → seen_bodies n k (xs ++ Said b ∷ []) ≡ seen_bodies n k xs ++ b ∷ []
      more_bodies k [] = refl
      more_bodies k (Said a ∷ xs) = ap (λ bs. a ∷ bs) (more_bodies k xs)
      more_bodies k (steps.Sent to what m ∷ xs) =
          ap (λ bs. sent_line (k + 1) n to what ++ bs) (more_bodies (k + 1) xs) ∙ sym (append_assoc (sent_line (k + 1) n to what) (seen_bodies n (k + 1) xs) (b ∷ []))

      frames : frames_with p.frames (seen_frames n (es ++ Said b ∷ [])) ≡ frames_with p.frames (seen_frames n es)
      frames = ap (frames_with p.frames) (same_frames es)

      lines : p.lines ++ numbered event (seen_bodies n (length p.frames) (es ++ Said b ∷ [])) ≡ (p.lines ++ numbered event (seen_bodies n (length p.frames) es)) ++ numbered event (b ∷ [])
      lines = ap (λ bs. p.lines ++ numbered event bs) (more_bodies (length p.frames) es) ∙ lines_both event p.lines (seen_bodies n (length p.frames) es) (b ∷ [])

      full : (p.full || overflows p.frames (seen_frames n (es ++ Said b ∷ []))) ≡ (p.full || overflows p.frames (seen_frames n es))
      full = ap (λ fs. p.full || overflows p.frames fs) (same_frames es)

  seen_behind : (es : List Effect) (b : Body) → seen (es ++ Say b ∷ []) ≡ seen es ++ Said b ∷ []
  seen_behind [] b = refl
  seen_behind (Say a ∷ es) b = ap (λ x. Said a ∷ x) (seen_behind es b)
  seen_behind (Do w ∷ es) b = seen_behind es b
  seen_behind (Send to m ∷ es) b = ap (λ x. steps.Sent to (frame_kind m) (Some m) ∷ x) (seen_behind es b)

  -- a stop cut the step: a line says that the node halted
  cut_at : (j : ℕ) (i : Input) (c c' : C) (d d' : D) (old : Hand C D) (net : List Sent) (before journal : List Line) (full : Bool) (out : List Output)
      → j < old.kept.header.nodes → slice_get old.kept.cores j ≡ Some c → slice_get old.disks j ≡ Some d
      → ((h : Header) (n : Node) → core.stands h c (file d) n → WasCut (core.stands h c' (file d')) n (step h n i) [] out)
      → put_of net before full ≡ put_seen (suc j) old.kept.event (map seen_of out) (put_of old.kept.net old.journal old.kept.full)
      → journal ≡ before ++ numbered old.kept.event (body.Halted (suc j) ∷ [])
      → StepsTo core file (suc j) i old (stepped j c' d' old net journal full)
  cut_at j i c c' d d' old net before journal full out high at_core at_disk cuts shown_is line w st = record {
    node = n;
    here = there.1;
    went = inr (
      was.work,
      was.how,
      subst (λ hd. was.work < count_works (step hd n i).halting) (sym st.header) was.within,
      subst (λ hd. Stands core file new (halted_at (suc j) n (cut was.work was.how (step hd n i).halting n.disk) w)) (sym st.header) after,
    );
  }
    where
      within : j < length w.nodes
      within = omega (arith, high, st.nodes.nodes_count)

      there : (m : Node) × (slice_get w.nodes j ≡ Some m)
      there = is_there j w.nodes within

      n : Node
      n = there.0

      new : Hand C D
      new = stepped j c' d' old net journal full

      was : WasCut (core.stands old.kept.header c' (file d')) n (step old.kept.header n i) [] out
      was = cuts old.kept.header n (st.nodes.each j c d n at_core at_disk there.1)

      q : Cut
      q = cut was.work was.how (step old.kept.header n i).halting n.disk

      said : List Seen
      said = map seen_of (out ++ output.Say (body.Halted (suc j)) ∷ [])

      said_is : said ≡ map seen_of out ++ Said (body.Halted (suc j)) ∷ []
      said_is = map-append seen_of out (output.Say (body.Halted (suc j)) ∷ [])

      puts : put_of net journal full ≡ put_seen (suc j) old.kept.event said (put_of old.kept.net old.journal old.kept.full)
      puts =
          (λ k. record { frames = map frame_of net; lines = line k; full = full })
          ∙ ap (λ (x : Put). record x { lines = x.lines ++ numbered old.kept.event (body.Halted (suc j) ∷ []) }) shown_is
          ∙ sym (put_said (suc j) old.kept.event (map seen_of out) (body.Halted (suc j)) (put_of old.kept.net old.journal old.kept.full))
          ∙ ap (λ es. put_seen (suc j) old.kept.event es (put_of old.kept.net old.journal old.kept.full)) (sym said_is)

      after : Stands core file new (halted_at (suc j) n q w)
      after = put_stands (suc j) (record n {
        disk = q.disk;
        live =
            None;
      }) (halted_outs (suc j) q) (out ++ output.Say (body.Halted (suc j)) ∷ []) old new w (put_of net journal full) st refl refl refl refl
          (said_is ∙ ap (λ es. es ++ Said (body.Halted (suc j)) ∷ []) (ap (map seen_of) was.outs.are ∙ was.outs.seen_so) ∙ sym (seen_behind q.outs (body.Halted (suc j)))) refl puts
          (nodes_set old.kept.header old.kept.cores old.disks w.nodes j c c' d d' n (record n {
            disk = q.disk;
            live =
                None;
          }) st.nodes at_core at_disk there.1 was.node refl)

  pub cut_to : (node : ℕ) (i : Input) (c c' : C) (d d' : D) (old : Hand C D) (net : List Sent) (before journal : List Line) (full : Bool) (out : List Output)
      → 1 ≤ node → node ≤ old.kept.header.nodes → slice_get old.kept.cores (node - 1) ≡ Some c → slice_get old.disks (node - 1) ≡ Some d
      → ((h : Header) (n : Node) → core.stands h c (file d) n → WasCut (core.stands h c' (file d')) n (step h n i) [] out)
      → put_of net before full ≡ put_seen node old.kept.event (map seen_of out) (put_of old.kept.net old.journal old.kept.full)
      → journal ≡ before ++ numbered old.kept.event (body.Halted node ∷ [])
      → StepsTo core file node i old (stepped (node - 1) c' d' old net journal full)
  cut_to node i c c' d d' old net before journal full out low high at_core at_disk cuts =
      subst (λ m. put_of net before full ≡ put_seen m old.kept.event (map seen_of out) (put_of old.kept.net old.journal old.kept.full) →
      journal ≡ before ++ numbered old.kept.event (body.Halted m ∷ [])
      → StepsTo core file m i old (stepped (node - 1) c' d' old net journal full))
      (omega (arith, low)) (cut_at (node - 1) i c c' d d' old net before journal full out (omega (arith, low, high)) at_core at_disk cuts)

  -- a core that stands is some node
  pub some_node : (node : ℕ) (c : C) (d : D) (old : Hand C D) → 1 ≤ node → node ≤ old.kept.header.nodes →
      slice_get old.kept.cores (node - 1) ≡ Some c → slice_get old.disks (node - 1) ≡ Some d
      → StandsSome core file old → (h : Header) × (n : Node) × core.stands h c (file d) n
  some_node node c d old low high at_core at_disk some =
      let w = some.0 in
      let st = some.1 in
      let there = is_there (node - 1) w.nodes (omega (arith, low, high, st.nodes.nodes_count)) in
      (old.kept.header, there.0, st.nodes.each (node - 1) c d there.0 at_core at_disk there.1)

  -- the hand as it is kept, with an item of a vector in its place
  pub done_kept : (node place : ℕ) (i : Input) (c c' : C) (d d' : D) (cores : List C) (old : Hand C D) (net : List Sent) (journal : List Line) (full : Bool) (out : List Output)
      → 1 ≤ node → node ≤ old.kept.header.nodes → place ≡ node - 1 → cores ≡ old.kept.cores → slice_get old.kept.cores (node - 1) ≡ Some c →
      slice_get old.disks (node - 1) ≡ Some d
      → ((h : Header) (n : Node) → core.stands h c (file d) n → Did (core.stands h c' (file d')) (step h n i) [] out)
      → put_of net journal full ≡ put_seen node old.kept.event (map seen_of out) (put_of old.kept.net old.journal old.kept.full)
      → (new : Hand C D) →
      new ≡ record {
        kept = record old.kept { cores = slice_set cores place c'; net = net; full = full };
        disks =
            slice_set old.disks (node - 1) d';
        journal = journal;
      }
      → StepsTo core file node i old new
  done_kept node place i c c' d d' cores old net journal full out low high is same at_core at_disk done shown_is new new_is =
      subst (StepsTo core file node i old) (sym (new_is ∙ (λ k. record {
        kept =
            record old.kept { cores = slice_set (same k) (is k) c'; net = net; full = full };
        disks =
            slice_set old.disks (node - 1) d';
        journal = journal;
      })))
      (done_to node i c c' d d' old net journal full out low high at_core at_disk done shown_is)

  pub cut_kept : (node place : ℕ) (i : Input) (c c' : C) (d d' : D) (cores : List C) (old : Hand C D) (net : List Sent) (before journal : List Line) (full : Bool) (out : List Output)
      → 1 ≤ node → node ≤ old.kept.header.nodes → place ≡ node - 1 → cores ≡ old.kept.cores → slice_get old.kept.cores (node - 1) ≡ Some c →
      slice_get old.disks (node - 1) ≡ Some d
      → ((h : Header) (n : Node) → core.stands h c (file d) n → WasCut (core.stands h c' (file d')) n (step h n i) [] out)
      → put_of net before full ≡ put_seen node old.kept.event (map seen_of out) (put_of old.kept.net old.journal old.kept.full)
      → journal ≡ before ++ numbered old.kept.event (body.Halted node ∷ [])
      → (new : Hand C D) →
      new ≡ record {
        kept = record old.kept { cores = slice_set cores place c'; net = net; full = full };
        disks =
            slice_set old.disks (node - 1) d';
        journal = journal;
      }
      → StepsTo core file node i old new
  cut_kept node place i c c' d d' cores old net before journal full out low high is same at_core at_disk cuts shown_is line new new_is =
      subst (StepsTo core file node i old) (sym (new_is ∙ (λ k. record {
        kept =
            record old.kept { cores = slice_set (same k) (is k) c'; net = net; full = full };
        disks =
            slice_set old.disks (node - 1) d';
        journal = journal;
      })))
      (cut_to node i c c' d d' old net before journal full out low high at_core at_disk cuts shown_is line)
