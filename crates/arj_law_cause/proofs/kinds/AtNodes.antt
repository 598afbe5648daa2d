-- What holds of each node's memory by the event and the lines, where lines of other nodes leave it: kept by each handler, where the lines
-- of
-- its own node make it.
use Rattle.arj_law_parts.proofs.Words
use Words.{◌≡◌, ◌∙◌, ◌==◌, ◌&&◌, ◌++◌, ◌+◌, ℕ, Bool, true, false, if◌then◌else◌, List, [], ◌∷◌, map, Option, Some, None, refl, sym, ap}
use Words.{subst}
use Words.{and_parts, list_all, Body, Coord, Event, Header, Line, Message, Disk, Do, Effect, Say, Send, stopped, worked, Parts, Took}
use Words.{handle, with_coord, acts as does, acts_own, again_all, again_own, all_both, begin_action, holders, map_own, parent_of, parts_in}
use Words.{query_about, restart_outs, tick_outs, tolds_again, tolds_again_own, AreAll, is_coord_effect, is_coord_line, is_serial, Node}
use Words.{Post}
use Words.{frame_kind, numbered}
use Words.body
use Words.event
use Words.frame
use Words.input
use Rattle.arj_law_parts.proofs.moves.{Flat.post, Together.with_both}
use Rattle.arj_law_parts.specs.moves.Moments.{MayTake, Moment, asks_now, at, down, fits, framed_if, given, halted, posted, said, up}
use Rattle.arj_law_parts.specs.moves.Seen.{AreQuiet, In, is_quiet_line}
use Rattle.arj_law_parts.specs.moves.With.{ArePlain, KeepsSteps, UpWith, WalksWith, is_plain_line}
use Rattle.arj_law_runs.proofs.kept.Walked.{same_number}
use Rattle.arj_law_serial.proofs.holding.{Running.restart_of, Says.All, Says.says, Sorts.is_of}
use Rattle.arj_law_serial.proofs.holding.Keeping.{coord_of}
use Rattle.arj_law_serial.proofs.holding.Says as saying

plain_quiet : (bs : List Body) → ArePlain bs → AreQuiet bs
plain_quiet [] all = refl
plain_quiet (b ∷ bs) all =
    let p = and_parts (is_plain_line b) (list_all is_plain_line bs) all in λ i. one b p.0 i && plain_quiet bs p.1 i
  where
    one : (b : Body) → is_plain_line b ≡ true → is_quiet_line b ≡ true
    one (body.Sent k from to what) is = refl
    one b is = is

module _ (F : Event → ℕ → List Line → ℕ → Parts → Type 0)
    (more : (e : Event) (i : ℕ) (ls : List Line) (j : ℕ) (t : Parts) (bs : List Body) → AreQuiet bs → F e i ls j t →
    F e i (ls ++ numbered i bs) j t)
    (off : (e : Event) (i : ℕ) (ls : List Line) (j k : ℕ) (t : Parts) (b : Body) → (j == k) ≡ false → is_of k b ≡ true → F e i ls j t →
    F e i (ls ++ numbered i (b ∷ [])) j t) where
  -- so it is of each node that is up
  abbrev pub HoldsSo : Moment → Type 0
  HoldsSo M = (j : ℕ) (n : Node) (t : Parts) → M.seen.nodes j ≡ Some n → n.live ≡ Some t → F M.past.event M.past.number M.seen.lines j t

  -- of each but this one
  abbrev But : ℕ → Moment → Type 0
  But k M = (j : ℕ) (n : Node) (t : Parts) → (j == k) ≡ false → M.seen.nodes j ≡ Some n → n.live ≡ Some t →
      F M.past.event M.past.number M.seen.lines j t

  -- so it is of the node behind these effects
  abbrev pub Due : ℕ → Parts → Event → ℕ → List Effect → List Line → Type 0
  Due k v e i [] ls = F e i ls k v
  Due k v e i (Do w ∷ es) ls = Due k v e i es ls
  Due k v e i (Say b ∷ es) ls = Due k v e i es (ls ++ numbered i (b ∷ []))
  Due k v e i (Send to m ∷ es) ls = (bs : List Body) → AreQuiet bs → Due k v e i es (ls ++ numbered i bs)

  -- where each line leaves it so
  pub due_each : (k : ℕ) (v : Parts) (e : Event) (i : ℕ) (T : Body → Bool) → ((ls : List Line) (b : Body) → T b ≡ true → F e i ls k v →
      F e i (ls ++ numbered i (b ∷ [])) k v) → (es : List Effect) → saying.All T es → (ls : List Line) → F e i ls k v → Due k v e i es ls
  due_each k v e i T one [] all ls its = its
  due_each k v e i T one (Do w ∷ es) all ls its = due_each k v e i T one es all ls its
  due_each k v e i T one (Say b ∷ es) all ls its =
      let p = and_parts (T b) (list_all (says T) es) all in due_each k v e i T one es p.1 (ls ++ numbered i (b ∷ [])) (one ls b p.0 its)
  due_each k v e i T one (Send to m ∷ es) all ls its = λ bs quiet. due_each k v e i T one es all (ls ++ numbered i bs) (more e i ls k v bs
      quiet its)

  some_is : {A : Type 0} {a b : A} → Some a ≡ Some b → a ≡ b
  some_is {A} {a} {b} is = let e : ◌≡◌ {A = Option A} (Some a) (Some b) = is in cc e

  but_at : (k : ℕ) (d : Disk) (live : Option Parts) (M : Moment) → HoldsSo (at k d live M) → But k M
  but_at k d live M h j n t apart there its = h j n t
      ((λ i. if apart i then Some (record { number = k; disk = d; live = live }) else M.seen.nodes j) ∙ there) its

  put_at : (k : ℕ) (d : Disk) (live : Option Parts) (M : Moment) → But k M →
      ((t : Parts) → live ≡ Some t → F M.past.event M.past.number M.seen.lines k t) → HoldsSo (at k d live M)
  put_at k d live M but own j n t there its = by (j == k) refl there
    where
      by : (b : Bool) → (j == k) ≡ b → (if b then Some (record { number = k; disk = d; live = live }) else M.seen.nodes j) ≡ Some n →
          F M.past.event M.past.number M.seen.lines j t
      by false apart put = but j n t apart put its
      by true same put = subst (λ z. F M.past.event M.past.number M.seen.lines z t) (sym (Words.eqb-true j k same))
          (own t (ap (λ (z : Node). z.live) (some_is put) ∙ its))

  but_said : (k : ℕ) (M : Moment) (b : Body) → is_of k b ≡ true → But k M → But k (said (b ∷ []) M)
  but_said k M b of h j n t apart there its = off M.past.event M.past.number M.seen.lines j k t b apart of (h j n t apart there its)

  but_quiet : (k : ℕ) (M : Moment) (bs : List Body) → AreQuiet bs → But k M → But k (said bs M)
  but_quiet k M bs quiet h j n t apart there its = more M.past.event M.past.number M.seen.lines j t bs quiet (h j n t apart there its)

  all_quiet : (M : Moment) (bs : List Body) → AreQuiet bs → HoldsSo M → HoldsSo (said bs M)
  all_quiet M bs quiet h j n t there its = more M.past.event M.past.number M.seen.lines j t bs quiet (h j n t there its)

  halted_so : (k : ℕ) (d : Disk) (M : Moment) → But k M → HoldsSo (halted k d M)
  halted_so k d M but = put_at k d None (said (body.Halted k ∷ []) M)
      (but_said k M (body.Halted k) (same_number k) but) (λ t gone. let no_way : ◌≡◌ {A = Option Parts} None (Some t) = gone in absurd (cc
      no_way))

  rest : (k : ℕ) (v : Parts) (es : List Effect) (d : Disk) (M : Moment) (p : Post) →
      ((L : Moment) → But k L → Due k v L.past.event L.past.number es L.seen.lines → WalksWith HoldsSo k es (UpWith HoldsSo k v) d L) →
      But k M →
      Due k v M.past.event M.past.number (Send p.to p.message ∷ es) M.seen.lines →
      (self fit : Bool) → WalksWith HoldsSo k es (UpWith HoldsSo k v) d (if self then posted p M else framed_if fit p M)
  rest k v es d M p go but due true fit = go (posted p M) but (subst (Due k v M.past.event M.past.number es) (Words.append-nil
      M.seen.lines) (due [] refl))
  rest k v es d M p go but due false true =
      let b = body.Sent (M.past.frames + 1) p.from p.to (frame_kind p.message) in
      go (framed_if true p M) (but_quiet k M (b ∷ []) refl but) (due (b ∷ []) refl)
  rest k v es d M p go but due false false = go M but (subst (Due k v M.past.event M.past.number es) (Words.append-nil M.seen.lines) (due
      [] refl))

  walk : (k : ℕ) (v : Parts) (outs : List Effect) (d : Disk) (M : Moment) → saying.All (is_of k) outs → But k M →
      Due k v M.past.event M.past.number outs M.seen.lines → WalksWith HoldsSo k outs (UpWith HoldsSo k v) d M
  walk k v [] d M of but due = put_at k d (Some v) M but
      (λ t is. subst (F M.past.event M.past.number M.seen.lines k) (some_is is) due)
  walk k v (Do w ∷ es) d M of but due = ((λ how. halted_so k (stopped how w d) M but), walk k v es (worked w d) M of but due)
  walk k v (Say b ∷ es) d M of but due = let p = and_parts (is_of k b) (list_all (says (is_of k)) es) of in
      walk k v es d (said (b ∷ []) M) p.1 (but_said k M b p.0 but) due
  walk k v (Send to m ∷ es) d M of but due = rest k v es d M (post k to m) (λ L b f. walk k v es d L of b f) but due (to == k) (fits M)

  -- ---- handlers

  -- what the node's own lines make of it
  pub record Dues (hd : Header) (P : Moment → Type 0) : Type 0 where
    pub message : (k : ℕ) (d : Disk) (t v : Parts) (from : ℕ) (m : Message) (outs : List Effect) (M : Moment) → P (up k d t M) →
        F M.past.event M.past.number M.seen.lines k t → In (record { from = from; to = k; message = m }) M.seen.sent →
        MayTake M.past.event m → handle k d t from m ≡ Took v outs →
        saying.All (is_of k) outs × Due k v M.past.event M.past.number outs M.seen.lines
    pub coord : (k : ℕ) (t : Parts) (c : Coord) (e : Event) (i : ℕ) (ls : List Line) (outs : List Effect) → AreAll is_coord_effect outs →
        F e i ls k t → Due k (with_coord t c) e i outs ls
    pub restart : (k : ℕ) (d : Disk) (M : Moment) → M.past.event ≡ event.Restart k → P (down k d M) →
        Due k (parts_in k (d.inc + 1) d) M.past.event M.past.number (restart_outs hd k (d.inc + 1) d) M.seen.lines

  of_coord : (k : ℕ) (outs : List Effect) → AreAll is_coord_effect outs → saying.All (is_of k) outs
  of_coord k outs = saying.kind_says (is_of k) is_coord_effect is_coord_line (λ b. refl) (coord_of k) outs

  own_at : (k : ℕ) (d : Disk) (t : Parts) (M : Moment) → HoldsSo (up k d t M) → F M.past.event M.past.number M.seen.lines k t
  own_at k d t M h = h k (record { number = k; disk = d; live = Some t }) t
      (λ i. if same_number k i then Some (record { number = k; disk = d; live = Some t }) else M.seen.nodes k) refl

  pub with_dues : (hd : Header) (P : Moment → Type 0) → KeepsSteps hd P → Dues hd P → KeepsSteps hd (λ M. P M × HoldsSo M)
  with_dues hd P p due = record {
    quiet = λ bs M plain h. (p.quiet bs M plain h.0, all_quiet M bs (plain_quiet bs plain) h.1);
    junk = λ n M fit h. (p.junk n M fit h.0, all_quiet M (body.Sent (M.past.frames + 1) 0 n frame.Junk ∷ []) refl h.1);
    stop = λ k d live M h. (p.stop k d live M h.0, halted_so k d M (but_at k d live M h.1));
    message = λ k d t v from m outs M h there meant may is.
        let z = due.message k d t v from m outs M h.0 (own_at k d t M h.1) there may is in
        with_both P HoldsSo k outs (UpWith P k v) (UpWith HoldsSo k v) d M (p.message k d t v from m outs M h.0 there meant may is)
        (walk k v outs d M z.0 (but_at k d (Some t) M h.1) z.1);
    act = λ k d t i M is brings fresh asks free h. let did = does i d.intents t.coord in
        let own = acts_own i d.intents t.coord in
        with_both P HoldsSo k did.outs (UpWith P k (with_coord t did.part)) (UpWith HoldsSo k (with_coord t did.part)) d (asks_now i
        t.coord M)
        (p.act k d t i M is brings fresh asks free h.0)
        (walk k (with_coord t did.part) did.outs d (asks_now i t.coord M) (of_coord k did.outs own) (but_at k d (Some t) M h.1)
        (due.coord k t did.part M.past.event M.past.number M.seen.lines did.outs own (own_at k d t M h.1)));
    begin = λ k d t l how parent M brings fresh new gives none h.
        let did = begin_action l how parent (parent_of parent t.coord) t.coord in
        let own = acts_own (input.Begin l how parent) d.intents t.coord in
        let N = given l (record { node = k; serial = is_serial how }) M in
        with_both P HoldsSo k did.outs (UpWith P k (with_coord t did.part)) (UpWith HoldsSo k (with_coord t did.part)) d N
        (p.begin k d t l how parent M brings fresh new gives none h.0)
        (walk k (with_coord t did.part) did.outs d N (of_coord k did.outs own) (but_at k d (Some t) M h.1)
        (due.coord k t did.part M.past.event M.past.number M.seen.lines did.outs own (own_at k d t M h.1)));
    tick = λ k d t M h. let r = again_all t.coord.doings t.coord in
        let outs = tick_outs (record { number = k; disk = d; live = Some t }) t in
        let own = all_both is_coord_effect (r.outs ++ tolds_again t.coord.telling) (map query_about (holders d t)) (all_both is_coord_effect
        r.outs (tolds_again t.coord.telling) (again_own t.coord.doings t.coord) (tolds_again_own t.coord.telling))
        (map_own query_about (holders d t) (λ u. refl)) in
        with_both P HoldsSo k outs (UpWith P k (with_coord t r.part)) (UpWith HoldsSo k (with_coord t r.part)) d M (p.tick k d t M h.0)
        (walk k (with_coord t r.part) outs d M (of_coord k outs own) (but_at k d (Some t) M h.1)
        (due.coord k t r.part M.past.event M.past.number M.seen.lines outs own (own_at k d t M h.1)));
    restart = λ k d M event first h. let outs = restart_outs hd k (d.inc + 1) d in let v = parts_in k (d.inc + 1) d in
        with_both P HoldsSo k outs (UpWith P k v) (UpWith HoldsSo k v) d M (p.restart k d M event first h.0)
        (walk k v outs d M (restart_of hd 0 0 k (d.inc + 1) d) (but_at k d None M h.1) (due.restart k d M event h.0));
  }
