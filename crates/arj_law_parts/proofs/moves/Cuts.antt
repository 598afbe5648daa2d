-- From walks to worlds: the lines and frames of effects, done to the end or up to a stop.
use Rattle.arj_law_parts.proofs.Words
use Words.{◌≡◌, ℕ, zero, suc, ◌+◌, ◌-◌, ◌⊎◌, Bool, true, false, List, [], ◌∷◌, ◌++◌, length, take, refl, sym, ◌∙◌, ap, subst, inl, inr}
use Words.{append-nil}
use Words.{append_assoc, arith, nat_tests, Some, map-append, if◌then◌else◌, nat_le, nat_lt, AllByRecursion, Body, Line, Message, frame_kind}
use Words.{Disk, Effect, Say, Send, Do, Stop, worked, Frame, Cut, sends, bodies, sent_line, numbered, cut, halted_outs, most_frames, Post}
use Words.{Seen}
use Words.body
use Rattle.arj_law_parts.proofs.Terms.{Within, IsSent}
use Rattle.arj_law_parts.proofs.moves.Flat.{Flat, post}
use Rattle.arj_law_parts.specs.moves.Moments.{Moment, down, fits, framed_if, halted, said, with_sent}

-- what is seen, with other lines
abbrev pub with_lines : List Line → Seen → Seen
with_lines ls M = record M { lines = ls }

-- as it is seen with more lines, once so many frames were sent
abbrev pub with_more : ℕ → List Line → Moment → Moment
with_more f ls M = record { past = record M.past { frames = f }; seen = with_lines (M.seen.lines ++ ls) M.seen }

-- the frames that fit behind so many
abbrev pub fitting : ℕ → List Frame → List Frame
fitting f frames = take (most_frames - f) frames

-- What holds where more was sent, and these lines are said besides; of these frames those that fit were sent.
abbrev pub Besides : (Moment → Type 0) → List Frame → List Line → Moment → Type 0
Besides Q frames ls M =
    let f = M.past.frames in
    (sent : List Post) × Within M.seen.sent sent × AllByRecursion (IsSent sent) (fitting f frames)
    × Q (with_sent sent (with_more (f + length (fitting f frames)) ls M))

-- said lines may be counted with those that follow
pub besides_said : (Q : Moment → Type 0) (frames : List Frame) (bs rest : List Body) (M : Moment) →
    Besides Q frames (numbered M.past.number rest) (said bs M) → Besides Q frames (numbered M.past.number (bs ++ rest)) M
besides_said Q frames bs rest M f =
    let e : ℕ = M.past.number in
    let same : (M.seen.lines ++ numbered e bs) ++ numbered e rest ≡ M.seen.lines ++ numbered e (bs ++ rest) =
    append_assoc M.seen.lines (numbered e bs) (numbered e rest)
    ∙ ap (λ ls. M.seen.lines ++ ls) (sym (map-append (λ b. record { event = e; body = b }) bs rest)) in
    let n : ℕ = M.past.frames + length (fitting M.past.frames frames) in
    (f.0, f.1, f.2, subst (λ ls. Q (with_sent f.0 (record { past = record M.past { frames = n }; seen = with_lines ls M.seen }))) same f.3)

-- both counts are the same, or both are past the limit
abbrev pub Counts : ℕ → ℕ → Type 0
Counts f j = (f ≡ j) ⊎ ((nat_lt f most_frames ≡ false) × (nat_lt j most_frames ≡ false))

-- one more fits behind both, or behind none
counts_fit : (f j : ℕ) → Counts f j → nat_lt f most_frames ≡ nat_le (j + 1) most_frames
counts_fit f j (inl is) = by
  where
    by : nat_lt f most_frames ≡ nat_le (j + 1) most_frames
    by = ap (λ n. nat_lt n most_frames) is ∙ same j
      where
        same : (j : ℕ) → nat_lt j most_frames ≡ nat_le (j + 1) most_frames
        same j = grind (arith, nat_tests)
counts_fit f j (inr past) = past.0 ∙ sym (over j past.1)
  where
    over : (j : ℕ) → nat_lt j most_frames ≡ false → nat_le (j + 1) most_frames ≡ false
    over j h = grind (arith, nat_tests)

counts_next : (f j : ℕ) → Counts f j → nat_lt f most_frames ≡ true → f + 1 ≡ j + 1
counts_next f j (inl is) fit = ap (λ n. n + 1) is
counts_next f j (inr past) fit = absurd (cc (sym past.0 ∙ fit))

counts_over : (f j : ℕ) → Counts f j → nat_lt f most_frames ≡ false → Counts f (j + 1)
counts_over f j counts full = inr (full, by counts)
  where
    more : (j : ℕ) → nat_lt j most_frames ≡ false → nat_lt (j + 1) most_frames ≡ false
    more j h = grind (arith, nat_tests)

    by : Counts f j → nat_lt (j + 1) most_frames ≡ false
    by (inl is) = more j (sym (ap (λ n. nat_lt n most_frames) is) ∙ full)
    by (inr past) = more j past.1

-- a frame that fits stands before those that fit behind it
first_fits : (f : ℕ) (x : Frame) (xs : List Frame) → nat_lt f most_frames ≡ true → fitting f (x ∷ xs) ≡ x ∷ fitting (f + 1) xs
first_fits f x xs fit = λ i. take (same i) (x ∷ xs)
  where
    same : most_frames - f ≡ suc (most_frames - (f + 1))
    same = grind (arith, nat_tests)

-- and none fits past the limit
none_fits : (f : ℕ) (xs : List Frame) → nat_lt f most_frames ≡ false → fitting f xs ≡ []
none_fits f xs full = λ i. take (same i) xs
  where
    same : most_frames - f ≡ zero
    same = grind (arith, nat_tests)

-- nor where there is none
pub nil_fits : (f : ℕ) → fitting f [] ≡ []
nil_fits f = by (most_frames - f)
  where
    by : (n : ℕ) → take {A = Frame} n [] ≡ []
    by zero = refl
    by (suc n) = refl

-- with this count of frames, and these lines
abbrev pub seen_as : ℕ → List Line → Moment → Moment
seen_as n ls M = record { past = record M.past { frames = n }; seen = with_lines ls M.seen }

same_as : (Q : Moment → Type 0) (m n : ℕ) (ks ls : List Line) (sent : List Post) (M : Moment) → m ≡ n → ks ≡ ls →
    Q (with_sent sent (seen_as m ks M)) → Q (with_sent sent (seen_as n ls M))
same_as Q m n ks ls sent M count lines q = subst (λ x. Q (with_sent sent (seen_as x ls M))) count
    (subst (λ xs. Q (with_sent sent (seen_as m xs M))) lines q)

-- what is sent is counted with what follows
besides_sent : (Q : Moment → Type 0) (k to : ℕ) (m : Message) (frames : List Frame) (rest : List Body) (M : Moment) (j : ℕ) (b : Bool)
    → fits M ≡ b → Counts M.past.frames j → Besides Q frames (numbered (let N = framed_if b (post k to m) M in N.past.number) rest)
    (framed_if b (post k to m) M)
    → Besides Q (record { from = k; to = to; message = Some m; delivered = false; lost = false } ∷ frames)
    (numbered M.past.number (sent_line (j + 1) k to (frame_kind m) ++ rest)) M
besides_sent Q k to m frames rest M j true fit counts f = subst Goal (sym (first_fits M.past.frames mine frames fit)) (
  f.0,
  (λ p h. f.1 p (inr h)),
  (f.1 (post k to m) (inl refl), f.2),
  same_as Q (n + 1 + length (fitting (n + 1) frames)) (n + length (mine ∷ fitting (n + 1) frames))
      ((M.seen.lines ++ numbered e (body.Sent (n + 1) k to (frame_kind m) ∷ [])) ++ numbered e rest)
      (M.seen.lines ++ numbered e (sent_line (j + 1) k to (frame_kind m) ++ rest)) f.0 M (count (fitting (n + 1) frames)) lines f.3,
)
  where
    n : ℕ
    n = M.past.frames

    e : ℕ
    e = M.past.number

    mine : Frame
    mine = record { from = k; to = to; message = Some m; delivered = false; lost = false }

    Goal : List Frame → Type 0
    Goal fs = (sent : List Post) × Within M.seen.sent sent × AllByRecursion (IsSent sent) fs
        × Q (with_sent sent (with_more (M.past.frames + length fs)
        (numbered M.past.number (sent_line (j + 1) k to (frame_kind m) ++ rest)) M))

    count : (fs : List Frame) → M.past.frames + 1 + length fs ≡ M.past.frames + length (mine ∷ fs)
    count fs = omega arith

    line : body.Sent (M.past.frames + 1) k to (frame_kind m) ∷ [] ≡ sent_line (j + 1) k to (frame_kind m)
    line = (λ i. body.Sent (counts_next M.past.frames j counts fit i) k to (frame_kind m) ∷ [])
        ∙ (λ i. if sym (sym (counts_fit M.past.frames j counts) ∙ fit) i then body.Sent (j + 1) k to (frame_kind m) ∷ [] else [])

    lines : (M.seen.lines ++ numbered M.past.number (body.Sent (M.past.frames + 1) k to (frame_kind m) ∷ [])) ++ numbered M.past.number rest
        ≡ M.seen.lines ++ numbered M.past.number (sent_line (j + 1) k to (frame_kind m) ++ rest)
    lines = append_assoc M.seen.lines (numbered M.past.number (body.Sent (M.past.frames + 1) k to (frame_kind m) ∷ []))
        (numbered M.past.number rest)
        ∙ ap (λ bs. M.seen.lines ++ numbered M.past.number (bs ++ rest)) line
besides_sent Q k to m frames rest M j false full counts f = subst Goal (none_fits n frames full ∙ sym (none_fits n (mine ∷ frames) full)) (
  f.0,
  f.1,
  f.2,
  same_as Q (n + length (fitting n frames)) (n + length (fitting n frames)) (M.seen.lines ++ numbered e rest)
      (M.seen.lines ++ numbered e (sent_line (j + 1) k to (frame_kind m) ++ rest)) f.0 M refl
      (ap (λ bs. M.seen.lines ++ numbered M.past.number (bs ++ rest)) line) f.3,
)
  where
    n : ℕ
    n = M.past.frames

    e : ℕ
    e = M.past.number

    mine : Frame
    mine = record { from = k; to = to; message = Some m; delivered = false; lost = false }

    Goal : List Frame → Type 0
    Goal fs = (sent : List Post) × Within M.seen.sent sent × AllByRecursion (IsSent sent) fs
        × Q (with_sent sent (with_more (M.past.frames + length fs)
        (numbered M.past.number (sent_line (j + 1) k to (frame_kind m) ++ rest)) M))

    line : [] ≡ sent_line (j + 1) k to (frame_kind m)
    line = λ i. if sym (sym (counts_fit M.past.frames j counts) ∙ full) i then body.Sent (j + 1) k to (frame_kind m) ∷ [] else []

-- the count goes on
counts_on : (k to : ℕ) (m : Message) (M : Moment) (j : ℕ) (b : Bool) → fits M ≡ b → Counts M.past.frames j →
    Counts (let N = framed_if b (post k to m) M in N.past.frames) (j + 1)
counts_on k to m M j true fit counts = inl (counts_next M.past.frames j counts fit)
counts_on k to m M j false full counts = counts_over M.past.frames j counts full

-- where nothing is left to send
besides_none : (Q : Moment → Type 0) (ls : List Line) (M : Moment) (sent : List Post) → Within M.seen.sent sent →
    Q (with_sent sent (with_more M.past.frames ls M)) → Besides Q [] ls M
besides_none Q ls M sent within q = (
  sent,
  within,
  subst (λ fs. AllByRecursion (IsSent sent) fs) (sym (nil_fits M.past.frames)) tt,
  subst (λ n. Q (with_sent sent (with_more n ls M))) (count M.past.frames
      ∙ ap (λ fs. M.past.frames + length {A = Frame} fs) (sym (nil_fits M.past.frames))) q,
)
  where
    count : (n : ℕ) → n ≡ n + 0
    count n = omega arith

-- all effects are done
pub flat_done : (P : Moment → Type 0) (k : ℕ) (es : List Effect) (end : Disk → Moment → Type 0) (d : Disk) (M : Moment) (j : ℕ) →
    Counts M.past.frames j → Flat P k es end d M
    → Besides (λ N. (c : Disk) × end c N) (sends k es) (numbered M.past.number (bodies k j es)) M
flat_done P k [] end d M j counts f = besides_none (λ N. (c : Disk) × end c N) [] M f.0 f.1
    (d, subst (λ ls. end d (with_sent f.0 (seen_as M.past.frames ls M))) (sym (append-nil M.seen.lines)) f.2)
flat_done P k (Do w ∷ es) end d M j counts f = flat_done P k es end (worked w d) M j counts f.1
flat_done P k (Say b ∷ es) end d M j counts f = besides_said (λ N. (c : Disk) × end c N) (sends k es) (b ∷ []) (bodies k j es) M
    (flat_done P k es end d (said (b ∷ []) M) j counts f)
flat_done P k (Send to m ∷ es) end d M j counts f =
    besides_sent (λ N. (c : Disk) × end c N) k to m (sends k es) (bodies k (j + 1) es) M j (fits M) refl counts
    (flat_done P k es end d (framed_if (fits M) (post k to m) M) (j + 1) (counts_on k to m M j (fits M) refl counts) f)

-- how a node that stopped has its disk
abbrev pub Stopped : (Moment → Type 0) → ℕ → Cut → Moment → Type 0
Stopped P k c M = P (down k c.disk M)

-- a stop falls on a work, or behind all of them
pub flat_cut :
    (P : Moment → Type 0) (k : ℕ) (es : List Effect) (end : Disk → Moment → Type 0) (d : Disk) (M : Moment) (c : ℕ) (how : Stop) (j : ℕ)
    → ((d : Disk) (N : Moment) → end d N → P (halted k d N)) → Counts M.past.frames j → Flat P k es end d M
    → Besides (Stopped P k (cut c how es d)) (sends k (halted_outs k (cut c how es d)))
    (numbered M.past.number (bodies k j (halted_outs k (cut c how es d)))) M
flat_cut P k [] end d M c how j last counts f = besides_none (Stopped P k (cut c how [] d))
    (numbered M.past.number (body.Halted k ∷ [])) M f.0 f.1
    (last d (with_sent f.0 M) f.2)
flat_cut P k (Do w ∷ es) end d M zero how j last counts f =
    let s = f.0 how in besides_none (Stopped P k (cut zero how (Do w ∷ es) d)) (numbered M.past.number (body.Halted k ∷ [])) M s.0 s.1 s.2
flat_cut P k (Do w ∷ es) end d M (suc c) how j last counts f = flat_cut P k es end (worked w d) M c how j last counts f.1
flat_cut P k (Say b ∷ es) end d M c how j last counts f =
    besides_said (Stopped P k (cut c how es d)) (sends k (halted_outs k (cut c how es d))) (b ∷ [])
    (bodies k j (halted_outs k (cut c how es d))) M
    (flat_cut P k es end d (said (b ∷ []) M) c how j last counts f)
flat_cut P k (Send to m ∷ es) end d M c how j last counts f =
    let rest : List Effect = halted_outs k (cut c how es d) in
    besides_sent (Stopped P k (cut c how es d)) k to m (sends k rest) (bodies k (j + 1) rest) M j (fits M) refl counts
    (flat_cut P k es end d (framed_if (fits M) (post k to m) M) c how (j + 1) last (counts_on k to m M j (fits M) refl counts) f)
