-- Runs of nodes that end at rest make calm images.
use Rattle.arj_law_parts.proofs.Words
use Words.{◌≡◌, ◌∙◌, ◌≤◌, ◌<◌, ◌+◌, ◌-◌, ◌==◌, ◌&&◌, ◌++◌, ℕ, zero, suc, Bool, true, false, cond, List, [], ◌∷◌, length, Option, Some, None, refl, sym}
use Words.{ap, subst, arith, nat_tests, nat_le, is_some, option_map, unwrap_or, slice_get, and_parts, Body, Event, Header, Line, Node, Pair, Uid, World}
use Words.{pair_in, at_place, world_by, see, most_events, IsReadingOf, DisksAre, state_bytes, eqb-true}
use Words.body
use Rattle.arj_audit.specs.Calm.{IsCalm}
use Rattle.arj_core.specs.declared.node.Core as core
use Rattle.arj_disk.specs.FileMap.{FileMap}
use Rattle.arj_disk.specs.Formed.{IsIncarnation}
use Rattle.arj_disk.specs.Says.{inc, role_of, slot_role}
use Rattle.arj_disk.specs.declared.disk.Disk as disk
use Rattle.arj_disk.specs.declared.slot.Role.{Role}
use Rattle.arj_disk.specs.declared.slot.Role.TheVariants as role
use Rattle.arj_disk.specs.declared.slot.Slot.{Slot}
use Rattle.arj_disk.specs.declared.slot.Slot.TheVariants as slot
use Rattle.arj_image.specs.declared.image.Image.{Image}
use Rattle.arj_image.specs.declared.image.NodeFile.{NodeFile}
use Rattle.arj_law_images.proofs.{Crashes.journals_tell_who_is_down, Cuts.all_of, Cuts.le_test, Items.stopped_images_are_calm, Nameless.runs_name_nothing}
use Rattle.arj_law_images.proofs.Gathered.{AreAmong, are_among, each_file, file_there, finished, grammar, held_is, inc_back, inc_so, low}
use Rattle.arj_law_images.proofs.Gathered.{no_pend, no_record}
use Rattle.arj_law_images.proofs.Rests.{runs_rest}
use Rattle.arj_law_images.specs.{Images.AreDown, Images.IsImageOf, Saving.AreSaved, Saving.RestingRunsMakeCalmImages, Saving.SavesFiles}
use Rattle.arj_law_nodes.proofs.nodes.Turning.{at_format, nodes_move}
use Rattle.arj_law_nodes.specs.nodes.Cores.{SaysReadings}
use Rattle.arj_law_nodes.specs.nodes.Readings.{Reads, files_at}
use Rattle.arj_law_nodes.specs.nodes.Turns.{HasMoved, IsTaskInForm}
use Rattle.arj_law_parts.specs.moves.Keeps.{Holds}
use Rattle.arj_law_promise.proofs.rooms.Incs.{incs_rise}
use Rattle.arj_law_runs.proofs.Terms.{Run, moves_asked}
use Rattle.arj_law_runs.proofs.addresses.Runs.{kept}
use Rattle.arj_law_runs.specs.addresses.Addresses.{AreAddressed, IsNode}
use Rattle.arj_law_store.specs.store.Files.{IsPairOf}
use Rattle.arj_lock.proofs.Members.{In, in_from}
use Rattle.arj_model.specs.Refusals.{frame_from, frame_step, is_down}
use Rattle.arj_nodes.specs.AllNodes.{RanAll, Task, task, world_after}
use Rattle.arj_promise.specs.Runs.{IsInForm, from_format}
use Rattle.arj_protocol.specs.Effect.{held_at}
use Rattle.arj_saved.specs.Files.{are_in_place, inc_at, is_in_place, is_inc, is_quiet, is_unfinished}
use Rattle.arj_saved.specs.Rows.{is_segment}
use Rattle.arj_saved.specs.Saved.{disks_of, held_among, pend_among, segments_in}
use Rattle.arj_saved.specs.declared.files.TheConstants.{MOST_COUNT}
use Rattle.arj_saving.specs.Gathered.{AreFilesOf, files_in, node_files}
use Rattle.arj_saving.specs.Saved.{image_of}
use Rattle.arj_saving.specs.Stops.{last_sent, sent_by, up_node, up_nodes}
use Rattle.arj_segment.specs.Formed as segment
use Rattle.arj_segment_file.specs.Format.{states_in}
use Rattle.arj_start.specs.Start.{fresh}
use Rattle.arj_world.proofs.Stepping.{is_there}
use Rattle.arj_world.specs.Stands.{Hand}

-- ---- frames

one_frame : (b : Body) (n : ℕ) → sent_by b n ≡ frame_step b n
one_frame (body.Sent k from to carried) n = refl
one_frame b n = refl

frames_so : (lines : List Line) (n : ℕ) → last_sent lines n ≡ frame_from n lines
frames_so [] n = refl
frames_so (line ∷ lines) n = ap (last_sent lines) (one_frame line.body n) ∙ frames_so lines (frame_step line.body n)

-- ---- nodes that are down

empty_both : (xs ys : List ℕ) → xs ++ ys ≡ [] → (xs ≡ []) × (ys ≡ [])
empty_both [] ys is = (refl, is)
empty_both (x ∷ xs) ys is = absurd (cc is)

none_up : (lines : List Line) (count n : ℕ) → up_nodes lines count ≡ [] → 1 ≤ n → n ≤ count → is_down fresh lines n ≡ true
none_up lines zero n is least most = absurd (omega (arith, least, most))
none_up lines (suc m) n is least most = by (n == suc m) refl (λ less. none_up lines m n (empty_both (up_nodes lines m) (up_node lines (suc m)) is).0 least less)
  where
    one : (b : Bool) → cond b [] (suc m ∷ []) ≡ [] → b ≡ true
    one true same = refl
    one false same = absurd (cc same)

    by : (b : Bool) → (n == suc m) ≡ b → (n ≤ m → is_down fresh lines n ≡ true) → is_down fresh lines n ≡ true
    by true same later = subst (λ k. is_down fresh lines k ≡ true) (sym (eqb-true n (suc m) same))
        (one (is_down fresh lines (suc m)) (empty_both (up_nodes lines m) (up_node lines (suc m)) is).1)
    by false apart later = later (grind (arith, nat_tests, most, apart))

test_both : (a b : Bool) → a ≡ true → b ≡ true → (a && b) ≡ true
test_both a b x y = λ i. x i && y i

module _ {C D : Type 0} (c : core.Ghosts C) (d : disk.Ghosts D) (read : Reads) (says : SaysReadings c read) (saves : SavesFiles c read) (began : List D)
    (hd : Header) (events : List Event) (now : Hand C D) (files : List NodeFile) (form : IsTaskInForm (task began hd events))
    (ran : RanAll c d (task began hd events) false now) where
  abbrev t : Task D
  t = task began hd events

  abbrev h : HasMoved c d t false now
  h = nodes_move c d t false now form ran

  abbrev r : Run hd
  r = from_format hd h.moves

  in_form : IsInForm hd r
  in_form = at_format hd h.formed h.moves h.form

  abbrev w : World
  w = world_by hd (from_format hd h.moves)

  -- ---- the nodes

  addressed : Holds hd (AreAddressed hd) w
  addressed = let f = h.form in moves_asked hd (AreAddressed hd) (kept hd f.header) r

  node_there : (n : ℕ) → IsNode hd n → (m : Node) × (at_place n w.nodes ≡ Some m)
  node_there n there = by (at_place n w.nodes) refl (let a = addressed in a.stands.places n there)
    where
      by : (o : Option Node) → at_place n w.nodes ≡ o → is_some o ≡ true → (m : Node) × (at_place n w.nodes ≡ Some m)
      by None none on = absurd (cc on)
      by (Some m) here on = (m, here)

  node_is : (n : ℕ) (m : Node) → at_place n w.nodes ≡ Some m → IsNode hd n
  node_is n m here =
      let a = addressed in
      let all = a.holds.1 in
      subst (IsNode hd) (a.stands.numbers n m here) (all.0 n m here).0

  in_range : (n : ℕ) → IsNode hd n → (1 ≤ n) × (n ≤ hd.nodes)
  in_range n node =
      let p = and_parts (nat_le 1 n) (nat_le n hd.nodes) node in (first p.0, second p.1)
    where
      first : nat_le 1 n ≡ true → 1 ≤ n
      first is = grind (arith, nat_tests, is)

      second : nat_le n hd.nodes ≡ true → n ≤ hd.nodes
      second is = grind (arith, nat_tests, is)

  node_by : (n : ℕ) → 1 ≤ n → n ≤ hd.nodes → IsNode hd n
  node_by n least most = test_both (nat_le 1 n) (nat_le n hd.nodes) (le_test 1 n least) (le_test n hd.nodes most)

  -- ---- their files

  -- the disk of the node at a place has files that are saved
  record At (i : ℕ) : Type 0 where
    on : D
    there : slice_get now.disks i ≡ Some on
    saved : AreSaved (d.file on) (read (d.file on))

  at_node : (i : ℕ) → i < hd.nodes → At i
  at_node i less =
      let s = ran.stands in
      let v = world_after hd fresh ran.turns in
      let same : now.kept.header.nodes ≡ hd.nodes = ap (λ (x : Header). x.nodes) ran.header in
      by (is_there i now.kept.cores (exactly i hd.nodes now.kept.header.nodes (length now.kept.cores) less same s.nodes.cores_count))
      (is_there i now.disks (at_least i hd.nodes now.kept.header.nodes (length now.disks) less same s.nodes.disks_count))
      (is_there i v.nodes (exactly i hd.nodes now.kept.header.nodes (length v.nodes) less same s.nodes.nodes_count))
    where
      exactly : (i h k n : ℕ) → i < h → k ≡ h → n ≡ k → i < n
      exactly i h k n less a b = omega (arith, less, a, b)

      at_least : (i h k n : ℕ) → i < h → k ≡ h → k ≤ n → i < n
      at_least i h k n less a b = omega (arith, less, a, b)

      by : (one : C) × (slice_get now.kept.cores i ≡ Some one) → (on : D) × (slice_get now.disks i ≡ Some on) →
          (m : Node) × (slice_get (let v = world_after hd fresh ran.turns in v.nodes) i ≡ Some m) → At i
      by (one, a) (on, b) (m, e) = record {
        on = on;
        there = b;
        saved = (let s = ran.stands in saves now.kept.header one (d.file on) m (s.nodes.each i one on m a b e));
      }

  abbrev F : ℕ → FileMap
  F n = node_files d.file now.disks n

  back_one : (i : ℕ) → suc i - 1 ≡ i
  back_one i = omega arith

  file_is : (i : ℕ) (a : At i) → F (suc i) ≡ d.file a.on
  file_is i a = ap (λ o. files_in d.file o) (ap (slice_get now.disks) (back_one i) ∙ a.there)

  module _ (down : up_nodes now.journal hd.nodes ≡ []) (are : AreFilesOf (node_files d.file now.disks) hd.nodes files)
      (quiet : is_quiet files ≡ true) where
    fin : (f : NodeFile) → In f files → is_unfinished f.slot ≡ false
    fin = finished files quiet

    -- ---- one node

    module _ (i : ℕ) (less : i < hd.nodes) where
      a : At i
      a = at_node i less

      abbrev file : FileMap
      file = d.file a.on

      s : AreSaved file (read file)
      s = a.saved

      g : AreAmong (suc i) file files
      g = subst (λ x. AreAmong (suc i) x files) (file_is i a) (are_among F hd.nodes files are (suc i) (least i) (most i hd.nodes less))
        where
          least : (j : ℕ) → 1 ≤ suc j
          least j = omega arith

          most : (j k : ℕ) → j < k → suc j ≤ k
          most j k l = omega (arith, l)

      no_file : (q : Slot) → is_unfinished q ≡ true → file q ≡ None
      no_file q un = by (file q) refl
        where
          by : (o : Option (List ℕ)) → file q ≡ o → o ≡ None
          by None is = refl
          by (Some b) is =
              let off = fin (record { node = suc i; slot = q; bytes = b }) (file_there (suc i) file files g q b is) in
              let never : true ≡ false = sym un ∙ off in absurd (cc never)

      held_so : (ro : Role) (u : Uid) → held_among (segments_in files) (suc i) ro u ≡ (let m = read file in m.held ro u)
      held_so ro u = g.held_so ro u ∙ held_is (suc i) file s.formed ro u g.names g.lists ∙ sym (s.held ro u)

      pend_so : (ro : Role) (x : Uid) → pend_among files (suc i) ro x ≡ (let m = read file in m.pend ro x)
      pend_so ro x = no_pend (suc i) ro x files fin ∙ sym (s.pend ro x ∙ ap (option_map states_in) (no_file (slot.Pending ro x) refl))

      inc_read : inc_at files (suc i) ≡ Some (inc file)
      inc_read =
          let e = s.incarnation in
          g.inc_so ∙ inc_so (suc i) file e.0 e.1 g.names (in_from slot.Incarnation g.names ((let l = g.lists in l.there slot.Incarnation).0 (ap is_some e.1)))
          ∙ inc_back file e.0 e.1 e.2

      reading : (m : Node) → at_place (suc i) w.nodes ≡ Some m → IsReadingOf (read file) m.disk
      reading m here = subst (λ o. IsReadingOf (read (files_at d o)) m.disk) a.there (h.readings read says (suc i) m here)

      pair_so : (ro : Role) (p : Pair) → IsPairOf (pair_in (read file) ro) p → IsPairOf (pair_in (disks_of files (suc i)) ro) p
      pair_so ro p q = record {
        held = λ u. held_so ro u ∙ q.held u;
        pend = λ x. pend_so ro x ∙ q.pend x;
        held_rises = q.held_rises;
        pend_rises = q.pend_rises;
        in_form = q.in_form;
      }

      disk_so : (m : Node) → at_place (suc i) w.nodes ≡ Some m → IsReadingOf (disks_of files (suc i)) m.disk
      disk_so m here = let q = reading m here in record {
        store = pair_so role.Store m.disk.store q.store;
        names = pair_so role.Names m.disk.names q.names;
        records = λ top. no_record (suc i) top files fin ∙ sym (s.records top ∙ ap (option_map _) (no_file (slot.Intent top) refl)) ∙ q.records top;
        inc = ap (λ o. unwrap_or o 0) inc_read ∙ sym s.inc ∙ q.inc;
      }

      -- ---- its files are in place

      m_there : (m : Node) × (at_place (suc i) w.nodes ≡ Some m)
      m_there = node_there (suc i) (node_by (suc i) (omega arith) (omega (arith, less)))

      inc_fits : is_inc (Some (inc file)) ≡ true
      inc_fits =
          let m = m_there.0 in
          let q = reading m m_there.1 in
          let same : inc file ≡ m.disk.inc = sym s.inc ∙ q.inc in
          let low = (let z = runs_rest hd r (suc i) m m_there.1 in z.some) in
          let high = incs_rise hd r (suc i) m m_there.1 in
          let few = (let f = h.form in f.few) in
          test_both (nat_le 1 (inc file)) (nat_le (inc file) MOST_COUNT) (le_test 1 (inc file) (above (inc file) m.disk.inc same low))
          (le_test (inc file) MOST_COUNT (under (inc file) m.disk.inc (length h.moves) same high few))
        where
          above : (x y : ℕ) → x ≡ y → 1 ≤ y → 1 ≤ x
          above x y e l = omega (arith, e, l)

          under : (x y k : ℕ) → x ≡ y → y ≤ 0 + 1 + k → k ≤ most_events → x ≤ MOST_COUNT
          under x y k e l few = omega (arith, e, l, few)

      no_old : (q : Slot) (b : List ℕ) (ro : Role) → file q ≡ Some b → segment.is_old q ≡ true → ◌≡◌ {A = Option Role} (slot_role q) (Some ro) → ⊥
      no_old q b ro has old own =
          let p = s.formed ro in
          let never : ◌≡◌ {A = Option (List ℕ)} (Some b) None = sym has ∙ p.in_place.old q old own in cc never

      small : (ro : Role) (k : ℕ) (b : List ℕ) → file (slot.Segment ro k) ≡ Some b → nat_le k MOST_COUNT ≡ true
      small ro k b has = le_test k MOST_COUNT (low (suc i) file s.formed ro k b has)

      names_alone : (k : ℕ) (b : List ℕ) → file (slot.Segment role.Names k) ≡ Some b → (suc i == 1) ≡ true
      names_alone k b has = by (suc i == 1) refl
        where
          by : (x : Bool) → (suc i == 1) ≡ x → x ≡ true
          by true is = refl
          by false off =
              let q = reading m_there.0 m_there.1 in
              let p = s.formed role.Names in
              let bare = runs_name_nothing hd r (suc i) m_there.0 m_there.1 off in
              let none = p.in_place.bare (λ u. sym (s.held role.Names u) ∙ (let z = q.names in z.held u)
              ∙ ap (λ (y : Pair). option_map state_bytes (held_at u y)) bare) k in
              let never : ◌≡◌ {A = Option (List ℕ)} (Some b) None = sym has ∙ none in absurd (cc never)

      place : (q : Slot) (b : List ℕ) → file q ≡ Some b → is_unfinished q ≡ false → is_in_place (suc i) q b ≡ true
      place slot.Incarnation b has un =
          let e = s.incarnation in
          let both : ◌≡◌ {A = Option (List ℕ)} (Some e.0) (Some b) = sym e.1 ∙ has in
          let same : e.0 ≡ b = cc both in
          ap is_inc (inc_back file b has (subst IsIncarnation same e.2)) ∙ inc_fits
      place slot.Tmp b has un = refl
      place (slot.Committed u) b has un = absurd (no_old (slot.Committed u) b (role_of u) has refl refl)
      place (slot.Shadow u) b has un = absurd (no_old (slot.Shadow u) b (role_of u) has refl refl)
      place (slot.Prepared ro x) b has un = absurd (no_old (slot.Prepared ro x) b ro has refl refl)
      place (slot.Intent x) b has un = absurd (cc un)
      place (slot.Pending ro x) b has un = absurd (cc un)
      place (slot.Segment role.Store k) b has un =
          test_both (nat_le k MOST_COUNT) (is_segment b) (small role.Store k b has) (grammar (suc i) file s.formed role.Store k b has)
      place (slot.Segment role.Names k) b has un =
          test_both ((suc i == 1) && nat_le k MOST_COUNT) (is_segment b)
          (test_both (suc i == 1) (nat_le k MOST_COUNT) (names_alone k b has) (small role.Names k b has))
          (grammar (suc i) file s.formed role.Names k b has)

    -- ---- the image

    in_place : are_in_place files ≡ true
    in_place = all_of (λ (f : NodeFile). is_in_place f.node f.slot f.bytes) files (λ f j.
        let e = each_file F hd.nodes files are f j in one f.node f.slot f.bytes e.least e.most e.has (fin f j))
      where
        one : (n : ℕ) (q : Slot) (b : List ℕ) → 1 ≤ n → n ≤ hd.nodes → F n q ≡ Some b → is_unfinished q ≡ false → is_in_place n q b ≡ true
        one zero q b least most has un = absurd (omega (arith, least))
        one (suc i) q b least most has un =
            let less : i < hd.nodes = omega (arith, most) in
            place i less q b (sym (ap (λ (x : FileMap). x q) (file_is i (a i less))) ∙ has) un

    disks_so : DisksAre (see [] w) (disks_of files)
    disks_so zero m here = absurd (cc here)
    disks_so (suc i) m here =
        let range = in_range (suc i) (node_is (suc i) m here) in disk_so i (below i hd.nodes range.1) m here
      where
        below : (j k : ℕ) → suc j ≤ k → j < k
        below j k l = omega (arith, l)

    abbrev image : Image
    image = image_of hd (length events) now.journal files

    is_image : IsImageOf hd h.moves image
    is_image = record {
      header = refl;
      journal = h.journal;
      events = h.event;
      frames = frames_so now.journal 0;
      disks = disks_so;
    }

    all_down : AreDown w
    all_down = journals_tell_who_is_down hd h.moves in_form h.is_over (λ n node.
        let range = in_range n node in
        ap (λ ls. is_down fresh ls n) (sym h.journal) ∙ none_up now.journal hd.nodes n down range.0 range.1)

    calm : IsCalm image
    calm = stopped_images_are_calm hd h.moves image in_form is_image all_down in_place

pub resting_runs : {C D : Type 0} (c : core.Ghosts C) (d : disk.Ghosts D) (read : Reads) → SaysReadings c read → SavesFiles c read →
    RestingRunsMakeCalmImages c d
resting_runs c d read says saves began hd events now files form ran down are quiet =
    calm c d read says saves began hd events now files form ran down are quiet
