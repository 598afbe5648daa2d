-- Labels of one name are one label; and the node that a frame is for, by the journal and by the world.
use Rattle.arj_law_parts.proofs.Words
use Words.{◌≡◌, ◌∙◌, ◌-◌, ◌≤◌, ◌==◌, ◌&&◌, ◌||◌, ◌++◌, ℕ, Bool, true, false, cond, List, [], ◌∷◌, length, refl, sym, ap, arith, nat_tests}
use Words.{Option, Some, None, or_left, or_right, eqb-true, Body, Label, Line, name}
use Words.body
use Rattle.arj_model.specs.CausePends.{frame_is, sends as sends_frame}
use Rattle.arj_model.specs.Own as own
use Rattle.arj_protocol.specs.Words.{FrameKind}
use Rattle.std.specs.Prelude.{drop, replicate}
use Rattle.std.proofs.Math.Path.{PathP, to_path_p}
use Rattle.std.proofs.Props.{props}
use Rattle.std.proofs.lemmas.List.{take-append-drop, length-take}

-- ---- labels

-- two labels of one name are one
label_by : (a b : Label) → (e : a.len ≡ b.len) → (f : a.text ≡ b.text) → a ≡ b
label_by a b e f =
    let whole_prop : IsProp (length b.text ≡ 16) = hlevel props in
    let short_prop : IsProp (b.len ≤ 16) = hlevel props in
    let zeros_prop : IsProp (drop b.len b.text ≡ replicate (16 - b.len) 0) = hlevel props in
    let whole : PathP (λ i. length (f i) ≡ 16) a.whole b.whole = to_path_p (λ i. length (f i) ≡ 16) (whole_prop _ _) in
    let short : PathP (λ i. e i ≤ 16) a.short b.short = to_path_p (λ i. e i ≤ 16) (short_prop _ _) in
    let zeros : PathP (λ i. drop (e i) (f i) ≡ replicate (16 - e i) 0) a.zeros b.zeros =
    to_path_p (λ i. drop (e i) (f i) ≡ replicate (16 - e i) 0) (zeros_prop _ _) in
    λ i. record { len = e i; text = f i; whole = whole i; short = short i; zeros = zeros i }

label_text : (l : Label) → name l ++ replicate (16 - l.len) 0 ≡ l.text
label_text l = ap (λ rest. name l ++ rest) (sym l.zeros) ∙ take-append-drop l.len l.text

label_length : (l : Label) → length (name l) ≡ l.len
label_length l = let short : l.len ≤ 16 = l.short in omega (arith, l.whole, length-take l.len l.text)

pub label_is : (a b : Label) → name a ≡ name b → a ≡ b
label_is a b e =
    let len : a.len ≡ b.len = sym (label_length a) ∙ (ap length e ∙ label_length b) in
    let padded : name a ++ replicate (16 - a.len) 0 ≡ name b ++ replicate (16 - b.len) 0 = λ i. e i ++ replicate (16 - len i) 0 in
    label_by a b len (sym (label_text a) ∙ (padded ∙ label_text b))

-- ---- the node that a frame is for

module _ (k : ℕ) where
  itself : (n : ℕ) → (n == n) ≡ true
  itself n = grind (arith, nat_tests)

  any : ℕ → ℕ → FrameKind → Bool
  any a b c = true

  abbrev pub to_node : ℕ → ℕ → ℕ → FrameKind → Bool
  to_node x a b c = b == x

  -- what a line makes of it
  abbrev One : Body → Option ℕ → Type 0
  One b found = (sends_frame (λ a c d. true) k b ≡ false → own.receiver_step k b found ≡ found)
      × (sends_frame (λ a c d. true) k b ≡ true → (x : ℕ) × (own.receiver_step k b found ≡ Some x) × (sends_frame (to_node x) k b ≡ true))

  one : (b : Body) (found : Option ℕ) → One b found
  one (body.Sent j from to what) found = by (j == k)
    where
      by : (z : Bool) → ((z && true) ≡ false → (cond z (Some to) found) ≡ found)
          × ((z && true) ≡ true → (x : ℕ) × (cond z (Some to) found ≡ Some x) × ((z && (to == x)) ≡ true))
      by true = (λ is. absurd (cc is), λ is. (to, refl, itself to))
      by false = (λ is. refl, λ is. absurd (cc is))
  one b found = (λ is. refl, λ is. absurd (cc is))

  abbrev All : List Line → Option ℕ → Type 0
  All ls found = (frame_is (λ a c d. true) ls k ≡ false → own.receiver_from k found ls ≡ found)
      × (frame_is (λ a c d. true) ls k ≡ true → (x : ℕ) × (own.receiver_from k found ls ≡ Some x) × (frame_is (to_node x) ls k ≡ true))

  all_lines : (ls : List Line) (found : Option ℕ) → All ls found
  all_lines [] found = (λ is. refl, λ is. absurd (cc is))
  all_lines (l ∷ ls) found =
      by (sends_frame (λ a c d. true) k l.body) refl (frame_is (λ a c d. true) ls k) refl (one l.body found)
      (all_lines ls (own.receiver_step k l.body found))
    where
      by : (z : Bool) → sends_frame (λ a c d. true) k l.body ≡ z → (y : Bool) → frame_is (λ a c d. true) ls k ≡ y → One l.body found →
          All ls (own.receiver_step k l.body found) →
          ((z || y) ≡ false → own.receiver_from k (own.receiver_step k l.body found) ls ≡ found)
          × ((z || y) ≡ true → (x : ℕ) × (own.receiver_from k (own.receiver_step k l.body found) ls ≡ Some x)
          × ((sends_frame (to_node x) k l.body || frame_is (to_node x) ls k) ≡ true))
      by z e true f first rest = (
        λ is. absurd (cc (sym (or_right z true refl) ∙ is)),
        λ is. let r = rest.1 f in (r.0, r.1, or_right (sends_frame (to_node r.0) k l.body) (frame_is (to_node r.0) ls k) r.2),
      )
      by true e false f first rest = (
        λ is. absurd (cc is),
        λ is. let r = first.1 e in (r.0, rest.0 f ∙ r.1, or_left (sends_frame (to_node r.0) k l.body) (frame_is (to_node r.0) ls k) r.2),
      )
      by false e false f first rest = (λ is. rest.0 f ∙ first.0 e, λ is. absurd (cc is))

  pub receiver_is : (ls : List Line) (f : ℕ) → frame_is (λ a c d. true) ls k ≡ true → ((x : ℕ) → frame_is (to_node x) ls k ≡ (f == x)) →
      own.receiver ls k ≡ Some f
  receiver_is ls f some each =
      let r = (all_lines ls None).1 some in
      r.1 ∙ ap Some (sym (eqb-true f r.0 (sym (each r.0) ∙ r.2)))
