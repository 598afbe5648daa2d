-- Images of runs, item by item.
use Rattle.arj_law_parts.proofs.Words
use Words.{◌≡◌, ◌++◌, ◌∙◌, ◌≤◌, ◌&&◌, ◌==◌, ◌||◌, ℕ, Bool, true, false, cond, List, [], ◌∷◌, Option, Some, None, refl, sym, ap, subst, inl, inr}
use Words.{arith, is_some, option_map, length, AllByRecursion, In, in_to, and_parts, list_all, list_any, nat_le, nat_lt, or_right, unwrap_or}
use Words.{Body, Header, Line, Node, ObjectState, Pair, Uid, World, IsInForm, Move, pair_in, state_bytes, object, at_place, journal_by, name}
use Words.{world_by, most_events, most_frames, same_number}
use Words.body
use Rattle.arj_disk.specs.declared.slot.Role.TheVariants as role
use Rattle.arj_disk.specs.declared.slot.Role.{Role}
use Rattle.arj_image.specs.declared.image.Image.{Image}
use Rattle.arj_law_images.proofs.Counts.{are_few as runs_few, events_fit, frames_fit}
use Rattle.arj_law_images.proofs.{Cuts.all_of, Cuts.le_test, Listed.lists_stores, Unnamed.entry_named, Unnamed.state_named, Pasts.held_past, Rests.UpTo, Rests.runs_rest}
use Rattle.arj_law_images.specs.Images.{AreDown, IsImageOf}
use Rattle.arj_law_images.specs.Laws.{ImagesAreClean, ImagesAreReadable, ImagesFit, ImagesHoldPast, ImagesKeepOrder, ImagesNameObjects, RunsKeepOrder}
use Rattle.arj_law_images.specs.Laws.{StoppedNodesFit}
use Rattle.arj_law_promise.proofs.{readable.Journals.runs_are_readable, statement.Keeping.runs_keep}
use Rattle.arj_law_parts.specs.moves.Keeps.{Holds}
use Rattle.arj_law_runs.proofs.Terms.{Run, moves_asked}
use Rattle.arj_law_runs.proofs.addresses.Runs.{kept, lines_name}
use Rattle.arj_law_runs.proofs.calls.Reaching.{moves_keep}
use Rattle.arj_law_runs.proofs.forms.Numbers.{runs_number_actions}
use Rattle.arj_law_runs.specs.addresses.Addresses.{AreAddressed, IsNode, SaysOf}
use Rattle.arj_book.specs.Order.{KeepsOrder}
use Rattle.arj_model.specs.Actions.{Act, Begun, acts, acts_after, acts_from, begun_of, numbered}
use Rattle.arj_model.specs.Refusals.{last_frame}
use Rattle.arj_reading.specs.Readable.{Readable}
use Rattle.arj_saved.specs.declared.files.TheConstants.{MOST_COUNT}
use Rattle.arj_start.specs.Start.{none_written}
use Rattle.arj_law_serial.proofs.joint.{Clean.reached_both, FitRuns.runs_in_form, Starting.start_stays}
use Rattle.arj_law_store.specs.store.Files.{IsPairOf}
use Rattle.arj_model.specs.Clean.{CleanFrom}
use Rattle.arj_model.specs.Disks.{Disks, held}
use Rattle.arj_model.specs.Last.{first_values, is_among, listed}
use Rattle.arj_past.specs.Past.{HoldPast, IsOfHeader}
use Rattle.arj_clean.specs.Clean.{AreClean, HoldsLast}
use Rattle.arj_promise.specs.Runs.{from_format}
use Rattle.arj_protocol.specs.Effect.{held_at}
use Rattle.arj_rest.specs.Nodes.{AreAtRest, are_few, body_fits, frame_of, has_come, is_halted, is_known, is_within, line_fits, lines_fit}
use Rattle.arj_saved.specs.Files.{inc_at}
use Rattle.arj_saved.specs.Saved.{disks_of}
use Rattle.arj_law_images.specs.Laws.{CrashedImagesAreCalm, ImagesListStores, RunsListStores, StoppedImagesAreCalm}
use Rattle.arj_law_images.proofs.Crashes.{crashes_stop_all}
use Rattle.arj_rest.specs.Nodes.{are_listed}

-- ---- the journal

pub runs_keep_order : RunsKeepOrder
runs_keep_order hd r form =
    let k = runs_keep hd r form in
    let b = k.book in
    record { order = b.order; answers = b.answers; nested = b.nested; times = b.times }

-- ---- lists

all_at : {A : Type 0} (P : A → Type 0) (xs : List A) → AllByRecursion P xs → (x : A) → In x xs → P x
all_at P [] all x i = absurd i
all_at P (y ∷ ys) all x (inl is) = subst P is all.0
all_at P (y ∷ ys) all x (inr i) = all_at P ys all.1 x i

test_both : (a b : Bool) → a ≡ true → b ≡ true → (a && b) ≡ true
test_both a b x y = λ i. x i && y i

-- ---- actions that began

stays_begun : (a : Act) (xs : List Act) (ls : List Line) → In a xs → In a (acts_from xs ls)
stays_begun a xs [] i = i
stays_begun a xs (l ∷ ls) i = stays_begun a (acts_after xs l.body) ls (by (begun_of l.body))
  where
    by : (o : Option Begun) → In a (numbered xs o)
    by None = i
    by (Some b) = inr i

-- whoever a line says to begin is one of the actions
began : (xs : List Act) (ls : List Line) (l : Line) → In l ls → (b : Begun) → begun_of l.body ≡ Some b →
    (a : Act) × In a (acts_from xs ls) × (a.uid ≡ b.uid)
began xs [] l i b is = absurd i
began xs (k ∷ ls) l (inr i) b is = began (acts_after xs k.body) ls l i b is
began xs (k ∷ ls) l (inl same) b is = (
  record { id = length xs; label = b.label; kind = b.kind; uid = b.uid; parent = b.parent },
  stays_begun _ (acts_after xs k.body) ls (subst (In _) (sym (ap (numbered xs) (ap (λ (z : Line). begun_of z.body) same ∙ is))) (inl refl)),
  refl,
)

-- ---- one image

module _ (hd : Header) (ms : List Move) (image : Image) (form : IsInForm hd (from_format hd ms)) (is : IsImageOf hd ms image) where
  abbrev r : Run hd
  r = from_format hd ms

  abbrev w : World
  w = world_by hd (from_format hd ms)

  abbrev lines : List Line
  lines = journal_by hd (from_format hd ms)

  abbrev disks : Disks
  disks = disks_of image.files

  addressed : Holds hd (AreAddressed hd) w
  addressed = moves_asked hd (AreAddressed hd) (kept hd form.header) r

  -- each node of the header is there
  node_there : (n : ℕ) → IsNode hd n → (m : Node) × (at_place n w.nodes ≡ Some m)
  node_there n there = by (at_place n w.nodes) refl (let h = addressed in h.stands.places n there)
    where
      by : (o : Option Node) → at_place n w.nodes ≡ o → is_some o ≡ true → (m : Node) × (at_place n w.nodes ≡ Some m)
      by None none on = absurd (cc on)
      by (Some m) here on = (m, here)

  -- and only those are
  node_is : (n : ℕ) (m : Node) → at_place n w.nodes ≡ Some m → IsNode hd n
  node_is n m here =
      let h = addressed in
      let all = h.holds.1 in
      subst (IsNode hd) (h.stands.numbers n m here) (all.0 n m here).0

  -- its incarnation is that of its file
  inc_is : (n : ℕ) (m : Node) → at_place n w.nodes ≡ Some m → inc_at image.files n ≡ Some m.disk.inc
  inc_is n m here = by (inc_at image.files n) refl (let d = is.disks n m here in d.inc)
    where
      some : 1 ≤ m.disk.inc
      some = let s = runs_rest hd r n m here in s.some

      by : (o : Option ℕ) → inc_at image.files n ≡ o → unwrap_or o 0 ≡ m.disk.inc → inc_at image.files n ≡ Some m.disk.inc
      by None none same = absurd (omega (arith, same, some))
      by (Some i) found same = found ∙ ap Some same

  -- ---- lines

  known : (u : Uid) (a : Act) → In a (acts lines) → a.uid ≡ u → is_known hd.nodes image.files u ≡ true
  known u a i same =
      let o = (runs_number_actions hd r a (in_to a (acts lines) i)).0 in
      let there : at_place u.node w.nodes ≡ Some o.node = ap (λ (v : Uid). at_place v.node w.nodes) (sym same) ∙ o.there in
      let p = and_parts (nat_le 1 u.node) (nat_le u.node hd.nodes) (node_is u.node o.node there) in
      test_both (nat_le 1 u.node) (nat_le u.node hd.nodes && is_within u.inc (inc_at image.files u.node)) p.0
      (test_both (nat_le u.node hd.nodes) (is_within u.inc (inc_at image.files u.node)) p.1
      (ap (is_within u.inc) (inc_is u.node o.node there) ∙ le_test u.inc o.node.disk.inc (subst (λ (v : Uid). v.inc ≤ o.node.disk.inc) same
      o.present)))

  come : (n i : ℕ) (l : Line) → In l lines → l.body ≡ body.Up n i → has_come hd.nodes image.files n i ≡ true
  come n i l there says = by (nat_lt hd.nodes n)
    where
      node : IsNode hd n
      node = subst (SaysOf (IsNode hd)) says (all_at (λ (k : Line). SaysOf (IsNode hd) k.body) lines (lines_name hd form.header r) l there)

      m : (m : Node) × (at_place n w.nodes ≡ Some m)
      m = node_there n node

      low : i ≤ (let x = m.0 in x.disk.inc)
      low = let s = runs_rest hd r n m.0 m.1 in
          subst (UpTo n (let x = m.0 in x.disk.inc)) says (all_at (λ (k : Line). UpTo n (let x = m.0 in x.disk.inc) k.body) lines s.ups l there)
          refl

      by : (b : Bool) → cond b true (is_within i (inc_at image.files n)) ≡ true
      by true = refl
      by false = ap (is_within i) (inc_is n m.0 m.1) ∙ le_test i (let x = m.0 in x.disk.inc) low

  body_so : (l : Line) → In l lines → (b : Body) → l.body ≡ b → body_fits hd.nodes image.files b ≡ true
  body_so l there (body.Began lb how u p) says =
      let a = began [] lines l there (record { label = name lb; kind = how; uid = u; parent = option_map name p })
      (ap begun_of says) in
      known u a.0 a.1 a.2
  body_so l there (body.Up n i) says = come n i l there says
  body_so l there b says = refl

  line_so : (l : Line) → In l lines → line_fits image l ≡ true
  line_so l there =
      test_both (nat_le l.event image.events) (nat_le (frame_of l.body) image.frames && body_fits image.header.nodes image.files l.body)
      (le_test l.event image.events (subst (λ n. l.event ≤ n) (sym is.events) (all_at (λ (k : Line). k.event ≤ w.event) lines
      (events_fit hd r form) l there)))
      (test_both (nat_le (frame_of l.body) image.frames) (body_fits image.header.nodes image.files l.body)
      (le_test (frame_of l.body) image.frames (subst (λ n. frame_of l.body ≤ n) (sym frames_are) (all_at (λ (k : Line).
      frame_of k.body ≤ last_frame lines) lines (frames_fit hd r form) l there)))
      (ap (λ (h : Header). body_fits h.nodes image.files l.body) is.header ∙ body_so l there l.body refl))
    where
      frames_are : image.frames ≡ last_frame lines
      frames_are = is.frames ∙ ap last_frame is.journal

  pub fit : (are_few image ≡ true) × (lines_fit image ≡ true)
  fit = (
    test_both (nat_le image.events MOST_COUNT) (nat_le image.frames MOST_COUNT)
        (le_test image.events MOST_COUNT (events_few image.events w.event is.events (runs_few hd r form).1))
        (le_test image.frames MOST_COUNT (frames_few image.frames (last_frame lines) (is.frames ∙ ap last_frame is.journal)
        (runs_few hd r form).0)),
    ap (list_all (line_fits image)) is.journal ∙ all_of (line_fits image) lines line_so,
  )
    where
      events_few : (m n : ℕ) → m ≡ n → n ≤ most_events → m ≤ MOST_COUNT
      events_few m n same le = omega (arith, same, le)

      frames_few : (m n : ℕ) → m ≡ n → n ≤ most_frames → m ≤ MOST_COUNT
      frames_few m n same le = omega (arith, same, le)

  pub rest : AreDown w → AreAtRest image image.header.nodes
  rest down n low high =
      let node : IsNode hd n = test_both (nat_le 1 n) (nat_le n hd.nodes) (le_test 1 n low)
      (le_test n hd.nodes (subst (λ (h : Header). n ≤ h.nodes) is.header high)) in
      let m = node_there n node in
      let s = runs_rest hd r n m.0 m.1 in
      test_both (is_halted image.journal n) (is_some (inc_at image.files n))
      (ap (λ ls. is_halted ls n) is.journal ∙ s.halts refl (down n m.0 m.1))
      (ap is_some (inc_is n m.0 m.1))

  -- ---- disks

  clean_from : CleanFrom hd none_written lines disks
  clean_from = let k = runs_keep hd r form in k.clean disks is.disks

  all_listed : (P : ℕ → Type 0) (ss : List ℕ) → ((s : ℕ) → is_among ss s ≡ true → P s) → AllByRecursion P ss
  all_listed P [] each = tt
  all_listed P (s ∷ ss) each = (
    each s (ap (λ b. b || list_any (λ m. m == s) ss) (same_number s)),
    all_listed P ss (λ t among. each t (or_right (s == t) (list_any (λ m. m == t) ss) among)),
  )

  clean_so : AreClean hd lines disks
  clean_so x there free = (
    clean_from.entries x there free,
    all_listed (HoldsLast hd lines disks x) (listed hd lines x) (λ s among clear. clean_from.stores x s among free clear),
  )

  pub clean : AreClean image.header image.journal disks
  clean = subst (λ (p : Header × List Line). AreClean p.0 p.1 disks) (λ i. (sym is.header i, sym is.journal i)) clean_so

  -- what a reading holds is held
  holds_at : (n : ℕ) (role : Role) (u : Uid) (bytes : List ℕ) (p : Pair) → IsPairOf (pair_in (disks n) role) p →
      held (disks n) role u ≡ Some bytes → (st : ObjectState) × (held_at u p ≡ Some st) × (state_bytes st ≡ bytes)
  holds_at n role u bytes p pair held = by (held_at u p) refl (sym (pair.held u) ∙ held)
    where
      by : (o : Option ObjectState) → held_at u p ≡ o → option_map state_bytes o ≡ Some bytes →
          (st : ObjectState) × (held_at u p ≡ Some st) × (state_bytes st ≡ bytes)
      by None none same = absurd (cc same)
      by (Some st) found same = (st, found, cc same)

  is_held : (n : ℕ) (role : Role) (u : Uid) → is_some (held (disks n) role u) ≡ true →
      (bytes : List ℕ) × (held (disks n) role u ≡ Some bytes)
  is_held n role u there = by (held (disks n) role u) refl there
    where
      by : (o : Option (List ℕ)) → held (disks n) role u ≡ o → is_some o ≡ true → (bytes : List ℕ) × (held (disks n) role u ≡ Some bytes)
      by None none on = absurd (cc on)
      by (Some bytes) found on = (bytes, found)

  past_so : HoldPast hd lines disks
  past_so = record {
    known = λ n low high u there.
        let node : IsNode hd n = test_both (nat_le 1 n) (nat_le n hd.nodes) (le_test 1 n low) (le_test n hd.nodes high) in
        let m = node_there n node in
        let b = is_held n role.Store u there in
        let d = is.disks n m.0 m.1 in
        let s = holds_at n role.Store u b.0 (let x = m.0 in x.disk.store) d.store b.1 in
        state_named hd form.header w (moves_keep hd r) n m.0 m.1 u s.0 s.1;
    past = λ x there n low high bytes has.
        let node : IsNode hd n = test_both (nat_le 1 n) (nat_le n hd.nodes) (le_test 1 n low) (le_test n hd.nodes high) in
        let m = node_there n node in
        let d = is.disks n m.0 m.1 in
        let s = holds_at n role.Store (object x) bytes (let x = m.0 in x.disk.store) d.store has in
        let f = runs_in_form hd r form in
        let p = held_past hd w (moves_keep hd r) form.header (reached_both hd form.header w f.0 f.1) (start_stays hd r) x there n m.0 s.0 m.1 s.1 in
        (p.0, sym s.2 ∙ ap state_bytes p.1);
  }

  pub past : HoldPast image.header image.journal disks
  past = subst (λ (p : Header × List Line). HoldPast p.0 p.1 disks) (λ i. (sym is.header i, sym is.journal i)) past_so

  pub named : IsOfHeader image.header.objects (disks 1) role.Names
  named = subst (λ (h : Header). IsOfHeader h.objects (disks 1) role.Names) (sym is.header) (λ u there.
      let node : IsNode hd 1 = test_both (nat_le 1 1) (nat_le 1 hd.nodes) refl (le_test 1 hd.nodes (let n = form.header.nodes in n.0)) in
      let m = node_there 1 node in
      let b = is_held 1 role.Names u there in
      let d = is.disks 1 m.0 m.1 in
      let s = holds_at 1 role.Names u b.0 (let x = m.0 in x.disk.names) d.names b.1 in
      entry_named hd form.header w (moves_keep hd r) 1 m.0 m.1 u s.0 s.1)

-- ---- all of them

pub images_fit : ImagesFit
images_fit hd ms image form is = fit hd ms image form is

pub stopped_nodes_fit : StoppedNodesFit
stopped_nodes_fit hd ms image form is down =
    let f = fit hd ms image form is in record { few = f.0; fits = f.1; rest = rest hd ms image form is down }

pub images_are_clean : ImagesAreClean
images_are_clean hd ms image form is = clean hd ms image form is

pub images_hold_past : ImagesHoldPast
images_hold_past hd ms image form is = past hd ms image form is

pub images_name_objects : ImagesNameObjects
images_name_objects hd ms image form is = named hd ms image form is

pub images_are_readable : ImagesAreReadable
images_are_readable hd ms image form is =
    subst (λ (p : Header × List Line). Readable p.0 p.1) (λ i. (sym is.header i, sym is.journal i)) (runs_are_readable hd (from_format hd ms) form)

pub images_keep_order : ImagesKeepOrder
images_keep_order hd ms image form is =
    subst (λ (p : Header × List Line). KeepsOrder (first_values p.0) p.1) (λ i. (sym is.header i, sym is.journal i))
    (runs_keep_order hd (from_format hd ms) form)

pub runs_list_stores : RunsListStores
runs_list_stores hd r form =
    let h = moves_asked hd (AreAddressed hd) (kept hd form.header) r in
    let n = first_there (world_by hd r) (h.stands.places 1 (test_both (nat_le 1 1) (nat_le 1 hd.nodes) refl
    (le_test 1 hd.nodes (let p = form.header.nodes in p.0)))) in
    let f = runs_in_form hd r form in
    lists_stores hd (world_by hd r) (moves_keep hd r) form.header (reached_both hd form.header (world_by hd r) f.0 f.1) n.0 n.1
  where
    first_there : (w : World) → is_some (at_place 1 w.nodes) ≡ true → (n : Node) × (at_place 1 w.nodes ≡ Some n)
    first_there w there = by (at_place 1 w.nodes) refl there
      where
        by : (o : Option Node) → at_place 1 w.nodes ≡ o → is_some o ≡ true → (n : Node) × (at_place 1 w.nodes ≡ Some n)
        by None none on = absurd (cc on)
        by (Some n) here on = (n, here)

pub images_list_stores : ImagesListStores
images_list_stores hd ms image form is =
    subst (λ (p : Header × List Line). are_listed p.0 p.1 ≡ true) (λ i. (sym is.header i, sym is.journal i))
    (runs_list_stores hd (from_format hd ms) form)

pub stopped_images_are_calm : StoppedImagesAreCalm
stopped_images_are_calm hd ms image form is down files = record {
  stopped = record {
    nodes = stopped_nodes_fit hd ms image form is down;
    files = files;
    entries = images_name_objects hd ms image form is;
    listed = images_list_stores hd ms image form is;
  };
  clean = images_are_clean hd ms image form is;
  true_to = record { book = images_keep_order hd ms image form is; past = images_hold_past hd ms image form is };
}

pub crashed_images_are_calm : CrashedImagesAreCalm
crashed_images_are_calm hd ms crashes ups image form are ups_are on is files =
    stopped_images_are_calm hd (ms ++ crashes) image form is (crashes_stop_all hd ms crashes ups form are ups_are on) files
