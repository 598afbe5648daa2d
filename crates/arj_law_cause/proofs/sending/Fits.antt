-- A run of few events meets no limit of frames: event by event, by what each sends at most.
use Rattle.arj_law_parts.proofs.Words
use Words.{◌≡◌, ◌∙◌, ◌≤◌, ◌<◌, ◌+◌, ◌-◌, ◌*◌, ◌==◌, ◌&&◌, ◌||◌, ◌++◌, not, ℕ, zero, suc, Bool, true, false, cond, List, [], ◌∷◌, filter}
use Words.{length, map}
use Words.{refl, sym, ap, subst, arith, and_parts, list_all, list_any, list_any-append, length-append, filter-append, append_assoc}
use Words.{IfSome, Option, Some}
use Words.{None, Body, Event, Header, Label, Line, most_frames, name}
use Words.body
use Words.cause
use Words.event
use Rattle.arj_law_parts.proofs.Terms.which
use Rattle.arj_promise.specs.Runs.{HeaderFits}
use Rattle.arj_law_runs.specs.follow.Frames.{are_so}
use Rattle.arj_model.specs.Actions.{Act, act_in, acts}
use Rattle.arj_model.specs.CauseNodes.{restarts}
use Rattle.arj_model.specs.CauseSpans.{Here, behind, here_at}
use Rattle.arj_model.specs.Follows.{AreEnding, Runs, is_ending, is_frame_limit, is_limited}
use Rattle.arj_model.specs.Own.{AreAborted, aborted_of}
use Rattle.arj_model.specs.Past.{Along, Past, at_start, block, is_refused, next}
use Rattle.arj_model.specs.Refusals.{frame_from, frame_no, last_frame}
use Rattle.arj_start.specs.Start.{Start}
use Rattle.arj_law_cause.specs.follow.lines.Lines.{HasLines, LinesStep}
use Rattle.arj_law_cause.specs.kinds.Kinds.{is_up}
use Rattle.arj_law_cause.specs.kinds.Rows.{RowStep, row}
use Rattle.arj_law_cause.specs.rounds.Fits.{LightFit, aborts_asked, asked_aborts, is_light, most_light}
use Rattle.arj_law_cause.specs.rounds.Sends.{SendsStep, carries, is_acked, is_answered_frame, is_call_frame, is_hello, is_prepared}
use Rattle.arj_law_cause.specs.rounds.Sends.{most_delivered, most_sent, others}

-- ---- lines

-- a line says that a node came up
abbrev pub has_up : List Line → Bool
has_up lines = list_any (λ (line : Line). is_up line.body) lines

or_none : (a b : Bool) → a || b ≡ false → (a ≡ false) × (b ≡ false)
or_none true b is = absurd (cc is)
or_none false b is = (refl, is)

front_up : (lines more : List Line) → has_up (lines ++ more) ≡ false → has_up lines ≡ false
front_up lines more none =
    (or_none (has_up lines) (has_up more) (sym (list_any-append (λ (l : Line). is_up l.body) lines more) ∙ none)).0

frames_both : (last : ℕ) (xs ys : List Line) → frame_from last (xs ++ ys) ≡ frame_from (frame_from last xs) ys
frames_both last [] ys = refl
frames_both last (x ∷ xs) ys = frames_both (Rattle.arj_model.specs.Refusals.frame_step x.body last) xs ys

asked_both : (xs ys : List Line) → asked_aborts (xs ++ ys) ≡ asked_aborts xs + asked_aborts ys
asked_both xs ys = ap (λ (ls : List Line). length ls) (filter-append aborts_asked xs ys)
    ∙ length-append (filter aborts_asked xs) (filter aborts_asked ys)

pub limited_both : (xs ys : List Line) → is_limited (xs ++ ys) ≡ is_limited xs || is_limited ys
limited_both xs ys = list_any-append (λ (l : Line). is_frame_limit l.body) xs ys

-- ---- no node comes up

module _ (hd : Header) where
  none_up : (e : Event) → is_light e ≡ true → (h : Here) → h.event ≡ e → (n : ℕ) (bs : List Body) → are_so (row (λ z. is_up)) h bs ≡ true →
      has_up (block n bs) ≡ false
  none_up e light h same n [] all = refl
  none_up e light h same n (b ∷ bs) all =
      let p = and_parts (row (λ z. is_up) h b) (are_so (row (λ z. is_up)) (behind h b) bs) all in
      λ i. one b p.0 i || none_up e light (behind h b) same n bs p.1 i
    where
      never : (z : Event) (k : ℕ) → is_light z ≡ true → restarts k z ≡ false
      never (event.Restart m) k on = absurd (cc on)
      never z k on = refl

      one : (b : Body) → row (λ z. is_up) h b ≡ true → is_up b ≡ false
      one (body.Up k i) is =
          let off : restarts k h.event ≡ false = ap (restarts k) same ∙ never e k light in
          let no_way : true ≡ false = sym (and_parts (restarts k h.event) _ is).0 ∙ off in absurd (cc no_way)
      one b is = refl

  ups_none : (p : Past) (es : List Event) (end : Past) → Along (RowStep (λ z. is_up) hd) p es end → list_all is_light es ≡ true →
      has_up p.lines ≡ false → has_up end.lines ≡ false
  ups_none p [] end is light none = ap (λ (q : Past). has_up q.lines) (sym is) ∙ none
  ups_none p (e ∷ es) end h light none =
      let l = and_parts (is_light e) (list_all is_light es) light in
      ups_none (next p e h.0) es end h.2 l.1
      (list_any-append (λ (x : Line). is_up x.body) p.lines (block (p.count + 1) h.0)
      ∙ (λ i. none i || none_up e l.0 (here_at hd p e h.0) refl (p.count + 1) h.0 h.1 i))

  -- ---- what an event sends

  -- What is known of each event: how many frames it sends, its lines, that the limit is met at so many frames, and that a node is greeted
  -- only once a line says that one came up.
  pub record LightStep (p : Past) (e : Event) (bodies : List Body) : Type 0 where
    pub sends : SendsStep hd p e bodies
    pub lines : LinesStep hd p e bodies
    pub full : is_limited (next p e bodies).lines ≡ true → last_frame (next p e bodies).lines ≡ most_frames
    pub hello : (k : ℕ) → carries is_hello p.lines k ≡ true → has_up p.lines ≡ true

  module _ (form : HeaderFits hd) where
    few_others : others hd ≤ 15
    few_others = let n = form.nodes in low hd.nodes n.1
      where
        low : (a : ℕ) → a ≤ 16 → a - 1 ≤ 15
        low a le = omega (arith, le)

    scaled : (a b : ℕ) → b ≤ 15 → a * b ≤ 15 * a
    scaled zero b le = none b
      where
        none : (b : ℕ) → 0 * b ≤ 0
        none b = let z : 0 * b ≡ 0 = grind arith in omega (arith, z)
    scaled (suc a) b le = more (suc a * b) (a * b) (next_so a b) (scaled a b le)
      where
        next_so : (a b : ℕ) → suc a * b ≡ b + a * b
        next_so a b = grind arith

        more : (x y : ℕ) → x ≡ b + y → y ≤ 15 * a → x ≤ 15 * suc a
        more x y is less = omega (arith, is, less, le)

    -- the lines with which an abort begins
    aborts_own : (n : ℕ) (xs : List Act) (own : List Body) → AreAborted xs own → length xs ≤ asked_aborts (block n own)
    aborts_own n [] [] its = omega arith
    aborts_own n (a ∷ xs) (body.Aborted l cause.Asked ∷ own) its = more (length xs) (asked_aborts (block n own)) (aborts_own n xs own its.1)
      where
        more : (a b : ℕ) → a ≤ b → suc a ≤ suc b
        more a b le = omega (arith, le)
    aborts_own n [] (b ∷ own) its = absurd its
    aborts_own n (a ∷ xs) [] its = absurd its
    aborts_own n (a ∷ xs) (b ∷ own) its = absurd its

    module _ (p : Past) (e : Event) (bodies : List Body) (light : is_light e ≡ true) (none : has_up p.lines
        ≡ false) (s : LightStep p e bodies) where
      abbrev q : Past
      q = next p e bodies

      abbrev asked : ℕ
      asked = asked_aborts (block (p.count + 1) bodies)

      -- what is added at most
      abbrev Adds : Type 0
      Adds = last_frame q.lines ≤ (last_frame p.lines + 60) + 15 * asked

      within : (k : ℕ) → k ≤ 60 → last_frame q.lines ≤ last_frame p.lines + k → Adds
      within k le sends = by (last_frame q.lines) (last_frame p.lines) asked sends
        where
          by : (a b c : ℕ) → a ≤ b + k → a ≤ (b + 60) + 15 * c
          by a b c x = omega (arith, x, le)

      each_node : (c : ℕ) → c ≤ 4 → last_frame q.lines ≤ last_frame p.lines + c * others hd → Adds
      each_node c le sends = within (c * others hd) (sixty (c * others hd) (scaled c (others hd) few_others)) sends
        where
          sixty : (x : ℕ) → x ≤ 15 * c → x ≤ 60
          sixty x less = omega (arith, less, le)

      -- a delivery, whatever it is of
      delivered : (k : ℕ) → IfSome (most_delivered hd p.lines k) (λ m. last_frame q.lines ≤ last_frame p.lines + m) → Adds
      delivered k sends = by (is_call_frame p.lines k || is_answered_frame p.lines k) (carries is_acked p.lines k)
          (carries is_prepared p.lines k) (carries is_hello p.lines k) refl sends
        where
          by : (b c d h : Bool) → carries is_hello p.lines k ≡ h →
              IfSome (cond b (Some 1) (cond c (Some (others hd)) (cond d (Some (2 * others hd))
              (cond h (Some (length (acts p.lines) * others hd)) (Some (3 * others hd))))))
              (λ m. last_frame q.lines ≤ last_frame p.lines + m) → Adds
          by true c d h is sends = within 1 (omega arith) sends
          by false true d h is sends = within (others hd) (low (others hd) few_others) sends
            where
              low : (a : ℕ) → a ≤ 15 → a ≤ 60
              low a le = omega (arith, le)
          by false false true h is sends = each_node 2 (omega arith) sends
          by false false false true is sends = let no_way : true ≡ false = sym (s.hello k is) ∙ none in absurd (cc no_way)
          by false false false false is sends = each_node 3 (omega arith) sends

      -- an abort: as many as it ends, or none where it is refused
      aborted : (l : Label) → e ≡ event.Abort l → (b : Bool) → is_refused bodies ≡ b →
          last_frame q.lines ≤ last_frame p.lines + length (aborted_of p.lines (act_in (acts p.lines) (name l))) * others hd → Adds
      aborted l is true refused sends = still bodies refused refl
        where
          stays : (a b c : ℕ) → a ≡ b → a ≤ (b + 60) + 15 * c
          stays a b c same = omega (arith, same)

          still : (bs : List Body) → is_refused bs ≡ true → bs ≡ bodies → Adds
          still (body.Refused c ∷ []) on same = stays (last_frame q.lines) (last_frame p.lines) asked
              (ap (λ (zs : List Body). last_frame (p.lines ++ block (p.count + 1) zs)) (sym same)
              ∙ frames_both 0 p.lines (block (p.count + 1) (body.Refused c ∷ [])))
          still bs on same = absurd (cc on)
      aborted l is false going sends = by (last_frame q.lines) (last_frame p.lines) (length xs * others hd) (length xs) asked sends
          (scaled (length xs) (others hd) few_others) ended
        where
          xs : List Act
          xs = aborted_of p.lines (act_in (acts p.lines) (name l))

          h : HasLines hd p (event.Abort l) bodies
          h = subst (λ z. HasLines hd p z bodies) is (s.lines.lines going)

          by : (a b m k c : ℕ) → a ≤ b + m → m ≤ 15 * k → k ≤ c → a ≤ (b + 60) + 15 * c
          by a b m k c x y z = omega (arith, x, y, z)

          more : (a b c d : ℕ) → a ≤ b → d ≡ b + c → a ≤ d
          more a b c d x y = omega (arith, x, y)

          ended : length xs ≤ asked
          ended = more (length xs) (asked_aborts (block (p.count + 1) h.own)) (asked_aborts (block (p.count + 1)
              (h.others ++ h.last))) asked
              (aborts_own (p.count + 1) xs h.own h.begins)
              (ap (λ (zs : List Body). asked_aborts (block (p.count + 1) zs)) h.parts
              ∙ ap asked_aborts (Words.map-append (λ (b : Body). record { event = p.count + 1; body = b }) h.own (h.others ++ h.last))
              ∙ asked_both (block (p.count + 1) h.own) (block (p.count + 1) (h.others ++ h.last)))

      adds : Adds
      adds = kinds e refl light s.sends
        where
          kinds : (z : Event) → e ≡ z → is_light z ≡ true →
              IfSome (most_sent hd p z) (λ m. last_frame q.lines ≤ last_frame p.lines + m) → Adds
          kinds (event.Call l x o) is on sends = within 1 (omega arith) sends
          kinds (event.Include l x n) is on sends = within 1 (omega arith) sends
          kinds (event.Junk n bytes) is on sends = within 1 (omega arith) sends
          kinds (event.Deliver k) is on sends = delivered (frame_no p.lines k) sends
          kinds (event.Commit l) is on sends = each_node 4 (omega arith) sends
          kinds (event.GiveUp l) is on sends = each_node 2 (omega arith) sends
          kinds (event.Abort l) is on sends = aborted l is (is_refused bodies) refl sends
          kinds (event.Tick n) is on sends = absurd (cc on)
          kinds (event.Restart n) is on sends = absurd (cc on)
          kinds event.Settle is on sends = absurd (cc on)
          kinds event.Quiesce is on sends = absurd (cc on)
          kinds (event.Begin l n) is on sends = within 0 (omega arith) sends
          kinds (event.Serial l n) is on sends = within 0 (omega arith) sends
          kinds (event.BeginIn l t) is on sends = within 0 (omega arith) sends
          kinds (event.Top l t) is on sends = within 0 (omega arith) sends
          kinds (event.Lose k) is on sends = within 0 (omega arith) sends
          kinds (event.Crash n) is on sends = within 0 (omega arith) sends
          kinds (event.Stop n c how) is on sends = within 0 (omega arith) sends
          kinds (event.Show x) is on sends = within 0 (omega arith) sends

    -- ---- a run

    -- the lines of a run are those before an event, and more
    more_lines : (p : Past) (es : List Event) (end : Past) → Along LightStep p es end → (more : List Line) × (end.lines ≡ p.lines ++ more)
    more_lines p [] end is = ([], ap (λ (q : Past). q.lines) (sym is) ∙ sym (Words.append-nil p.lines))
    more_lines p (e ∷ es) end h =
        let r = more_lines (next p e h.0) es end h.2 in
        (block (p.count + 1) h.0 ++ r.0, r.1 ∙ append_assoc p.lines (block (p.count + 1) h.0) r.0)

    goes : (p : Past) (es : List Event) (end : Past) → Along LightStep p es end → list_all is_light es ≡ true → has_up end.lines ≡ false →
        is_limited p.lines ≡ false → last_frame p.lines ≤ 60 * p.count + 60 * asked_aborts p.lines →
        (p.count + length es) + asked_aborts end.lines ≤ most_light → is_limited end.lines ≡ false
    goes p [] end is light none free few most = ap (λ (q : Past). is_limited q.lines) (sym is) ∙ free
    goes p (e ∷ es) end h light none free few most =
        let l = and_parts (is_light e) (list_all is_light es) light in
        let later = more_lines (next p e h.0) es end h.2 in
        let before = front_up p.lines (block (p.count + 1) h.0 ++ later.0)
        (ap has_up (sym (append_assoc p.lines (block (p.count + 1) h.0) later.0)) ∙ ap has_up (sym later.1) ∙ none) in
        let a = adds p e h.0 l.0 before h.1 in
        let same = asked_both p.lines (block (p.count + 1) h.0) in
        let rest = ap asked_aborts later.1 ∙ asked_both (next p e h.0).lines later.0 in
        let less = sum (last_frame (next p e h.0).lines) (last_frame p.lines) p.count (asked_aborts p.lines)
        (asked_aborts (block (p.count + 1) h.0)) (asked_aborts (next p e h.0).lines) a few same in
        goes (next p e h.0) es end h.2 l.1 none
        (still (is_limited (next p e h.0).lines) refl h.1 (under (last_frame (next p e h.0).lines) p.count (length es)
        (asked_aborts (next p e h.0).lines) (asked_aborts later.0) (asked_aborts end.lines) less rest most))
        less (shift p.count (length es) (asked_aborts end.lines) most)
      where
        sum : (a b c k m t : ℕ) → a ≤ (b + 60) + 15 * m → b ≤ 60 * c + 60 * k → t ≡ k + m → a ≤ 60 * (c + 1) + 60 * t
        sum a b c k m t x y z = omega (arith, x, y, z)

        under : (a c n t m w : ℕ) → a ≤ 60 * (c + 1) + 60 * t → w ≡ t + m → (c + suc n) + w ≤ most_light → a < most_frames
        under a c n t m w x y z = omega (arith, x, y, z)

        shift : (c n w : ℕ) → (c + suc n) + w ≤ most_light → ((c + 1) + n) + w ≤ most_light
        shift c n w z = omega (arith, z)

        never : (a b : ℕ) → a ≡ b → a < b → ⊥
        never a b is less = omega (arith, is, less)

        still : (b : Bool) → is_limited (next p e h.0).lines ≡ b → LightStep p e h.0 → last_frame (next p e h.0).lines < most_frames →
            b ≡ false
        still false is s less = refl
        still true is s less = absurd (never (last_frame (next p e h.0).lines) most_frames (s.full is) less)

    ending_up : (n : ℕ) (ls : List Line) → AreEnding n ls → has_up ls ≡ false
    ending_up n [] its = refl
    ending_up n (l ∷ []) its = λ i. one l.body its.1 i || false
      where
        one : (b : Body) → is_ending b ≡ true → is_up b ≡ false
        one (body.Up k i) is = absurd (cc is)
        one b is = refl
    ending_up n (l ∷ m ∷ ls) its = absurd its

    pub ending_free : (n : ℕ) (ls : List Line) → AreEnding n ls → is_limited ls ≡ false
    ending_free n [] its = refl
    ending_free n (l ∷ []) its = λ i. one l.body its.1 i || false
      where
        one : (b : Body) → is_ending b ≡ true → is_frame_limit b ≡ false
        one (body.Limit which.Frames) is = absurd (cc is)
        one b is = refl
    ending_free n (l ∷ m ∷ ls) its = absurd its

    -- few events meet no limit of frames
    pub few_fit : (st : Start) (es : List Event) (journal : List Line) → Runs (RowStep (λ z. is_up) hd) st es journal →
        Runs LightStep st es journal → LightFit es journal
    few_fit st es journal ups steps light few =
        let none = ups_none (at_start st) es ups.0 ups.2 light refl in
        let all : has_up journal ≡ false = ap has_up ups.3 ∙ list_any-append (λ (l : Line). is_up l.body) (let q = ups.0 in q.lines) ups.1
        ∙ (λ i. none i || ending_up (length es) ups.1 ups.4 i) in
        let end = steps.0 in
        let kept = front_up end.lines steps.1 (ap has_up (sym steps.3) ∙ all) in
        let asked = ap asked_aborts steps.3 ∙ asked_both end.lines steps.1 in
        let free = goes (at_start st) es end steps.2 light kept refl (omega arith)
        (within_all (length es) (asked_aborts end.lines) (asked_aborts steps.1) (asked_aborts journal) asked few) in
        ap is_limited steps.3 ∙ limited_both end.lines steps.1 ∙ (λ i. free i || ending_free (length es) steps.1 steps.4 i)
      where
        within_all : (n a b c : ℕ) → c ≡ a + b → n + c ≤ most_light → (0 + n) + a ≤ most_light
        within_all n a b c is le = omega (arith, is, le)
