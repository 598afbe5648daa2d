-- What a node puts out, one thing after another.
use Rattle.std.proofs.Common.{◌≡◌, ℕ, zero, suc, ◌+◌, ◌-◌, ◌≤◌, ◌<◌, Bool, true, false, ◌||◌, List, [], ◌∷◌, ◌++◌, length, map, take, refl}
use Rattle.std.proofs.Common.{ap, sym, ◌∙◌, Some, arith, nat_lt}
use Rattle.std.specs.Prelude.{nat_le}
use Rattle.std.proofs.lemmas.List.{append-nil, append_assoc, map-append, length-append, length-map}
use Rattle.arj_core.specs.Steps.{Seen, Said, Sent, seen, seen_of}
use Rattle.arj_core.specs.declared.output.Output.{Output}
use Rattle.arj_protocol.specs.Ask.{frame_kind}
use Rattle.arj_protocol.specs.Effect.{Effect, Say, Send, Do}
use Rattle.arj_protocol.specs.Words.{Body, Line}
use Rattle.arj_protocol.specs.World.{Frame, sends, bodies, sent_line, frames_with, overflows, numbered, new_frame}
use Rattle.arj_world.specs.Wire.{AreFew, Put, frame_of, put_seen, seen_frames, seen_bodies, shown}
use Rattle.arj_world.specs.declared.wire.Wire.{Wire}
use Rattle.arj_start.specs.Limits.{most_frames}

-- ---- effects as they are seen

pub frames_seen : (n : ℕ) (es : List Effect) → sends n es ≡ seen_frames n (seen es)
frames_seen n [] = refl
frames_seen n (Say b ∷ es) = frames_seen n es
frames_seen n (Do w ∷ es) = frames_seen n es
frames_seen n (Send to m ∷ es) = ap (λ fs. new_frame n to (Some m) ∷ fs) (frames_seen n es)

pub bodies_seen : (n k : ℕ) (es : List Effect) → bodies n k es ≡ seen_bodies n k (seen es)
bodies_seen n k [] = refl
bodies_seen n k (Say b ∷ es) = ap (λ bs. b ∷ bs) (bodies_seen n k es)
bodies_seen n k (Do w ∷ es) = bodies_seen n k es
bodies_seen n k (Send to m ∷ es) = ap (λ bs. sent_line (k + 1) n to (frame_kind m) ++ bs) (bodies_seen n (k + 1) es)

-- ---- past the limit

no_line : (k n to : ℕ) (what : _) → most_frames ≤ k → sent_line (k + 1) n to what ≡ []
no_line k n to what h = let past : nat_le (k + 1) most_frames ≡ false = grind (arith, h) in rw past refl

-- no frame past the limit has a line
past : (n k : ℕ) (es : List Seen) → most_frames ≤ k → seen_bodies n (k + 1) es ≡ seen_bodies n k es
past n k [] h = refl
past n k (Said b ∷ es) h = ap (λ bs. b ∷ bs) (past n k es h)
past n k (Sent to what m ∷ es) h =
    (λ i. (no_line (k + 1) n to what (omega (arith, h)) ∙ sym (no_line k n to what h)) i ++ past n (k + 1) es (omega (arith, h)) i)

-- ---- one after another

frames_nil : (fs : List Frame) → frames_with fs [] ≡ fs
frames_nil fs = ap (λ x. fs ++ x) (take_nil (most_frames - length fs)) ∙ append-nil fs
  where
    take_nil : (n : ℕ) → take n (seen_frames 0 []) ≡ []
    take_nil zero = refl
    take_nil (suc n) = refl

one_fits : (fs : List Frame) (f : Frame) → length fs < most_frames → frames_with fs (f ∷ []) ≡ fs ++ f ∷ []
one_fits fs f h = by (most_frames - length fs) refl
  where
    by : (r : ℕ) → most_frames - length fs ≡ r → fs ++ take r (f ∷ []) ≡ fs ++ f ∷ []
    by zero is = absurd (omega (arith, h, is))
    by (suc r) is = ap (λ x. fs ++ f ∷ x) (nil r)
      where
        nil : (n : ℕ) → take n (seen_frames 0 []) ≡ []
        nil zero = refl
        nil (suc n) = refl

one_is_lost : (fs : List Frame) (f : Frame) (new : List Frame) → most_frames ≤ length fs → frames_with fs (f ∷ new) ≡ fs
one_is_lost fs f new h = let none : most_frames - length fs ≡ 0 = omega (arith, h) in ap (λ r. fs ++ take r (f ∷ new)) none ∙ append-nil fs

all_are_lost : (fs new : List Frame) → most_frames ≤ length fs → frames_with fs new ≡ fs
all_are_lost fs [] h = frames_nil fs
all_are_lost fs (f ∷ new) h = one_is_lost fs f new h

one_more : (fs : List Frame) (f : Frame) (new : List Frame) → length fs < most_frames →
    frames_with fs (f ∷ new) ≡ frames_with (fs ++ f ∷ []) new
one_more fs f new h = by (most_frames - length fs) refl
  where
    by : (r : ℕ) → most_frames - length fs ≡ r → fs ++ take r (f ∷ new) ≡ frames_with (fs ++ f ∷ []) new
    by zero is = absurd (omega (arith, h, is))
    by (suc r) is =
        let left : r ≡ most_frames - length (fs ++ f ∷ []) = omega (arith, is, length-append fs (f ∷ [])) in
        sym (append_assoc fs (f ∷ []) (take r new)) ∙ ap (λ n. (fs ++ f ∷ []) ++ take n new) left

-- nothing is put
pub put_none : (n event : ℕ) (p : Put) → length p.frames ≤ most_frames → put_seen n event [] p ≡ p
put_none n event p few = λ i. record { frames = frames_nil p.frames i; lines = append-nil p.lines i; full = whole i }
  where
    whole : (p.full || overflows p.frames (seen_frames n [])) ≡ p.full
    whole = let fits : overflows p.frames (seen_frames n []) ≡ false = grind (arith, few) in rw fits (or_false p.full)
      where
        or_false : (b : Bool) → (b || false) ≡ b
        or_false true = refl
        or_false false = refl

pub lines_both : (event : ℕ) (ls : List Line) (cs bs : List Body) →
    ls ++ numbered event (cs ++ bs) ≡ (ls ++ numbered event cs) ++ numbered event bs
lines_both event ls cs bs = ap (λ x. ls ++ x) (map-append _ cs bs) ∙ sym (append_assoc ls (numbered event cs) (numbered event bs))

-- lines, where what is put first leaves the frames so
lines_next : (n event : ℕ) (ls : List Line) (first : List Body) (k : ℕ) (fs : List Frame) (es : List Seen) →
    seen_bodies n k es ≡ seen_bodies n (length fs) es
    → ls ++ numbered event (first ++ seen_bodies n k es) ≡ (ls ++ numbered event first) ++ numbered event (seen_bodies n (length fs) es)
lines_next n event ls first k fs es same =
    ap (λ bs. ls ++ numbered event (first ++ bs)) same ∙ lines_both event ls first (seen_bodies n (length fs) es)

-- the first thing, and then the others
pub put_next : (n event : ℕ) (e : Seen) (es : List Seen) (p : Put) → length p.frames ≤ most_frames →
    put_seen n event (e ∷ es) p ≡ put_seen n event es (put_seen n event (e ∷ []) p)
put_next n event (Said b) es p few = λ i. record { frames = frames i; lines = lines i; full = full i }
  where
    same : frames_with p.frames [] ≡ p.frames
    same = frames_nil p.frames

    frames : frames_with p.frames (seen_frames n es) ≡ frames_with (frames_with p.frames []) (seen_frames n es)
    frames = ap (λ fs. frames_with fs (seen_frames n es)) (sym same)

    lines : p.lines ++ numbered event (b ∷ seen_bodies n (length p.frames) es) ≡ (p.lines ++ numbered event (b ∷ [])) ++ numbered event (seen_bodies n (length (frames_with p.frames [])) es)
    lines = lines_next n event p.lines (b ∷ []) (length p.frames) (frames_with p.frames []) es (ap (λ fs. seen_bodies n (length fs) es) (sym same))

    or_false : (b : Bool) → b ≡ (b || false)
    or_false true = refl
    or_false false = refl

    fits : overflows p.frames [] ≡ false
    fits = grind (arith, few)

    full : (p.full || overflows p.frames (seen_frames n es)) ≡ ((p.full || overflows p.frames []) || overflows (frames_with p.frames []) (seen_frames n es))
    full = ap (λ fs. p.full || overflows fs (seen_frames n es)) (sym same) ∙ ap (λ b. b || overflows (frames_with p.frames []) (seen_frames n es)) (or_false p.full ∙ ap (λ b. p.full || b) (sym fits))
put_next n event (Sent to what m) es p few = by (nat_lt (length p.frames) most_frames) refl
  where
    f : Frame
    f = new_frame n to m

    line : List Body
    line = sent_line (length p.frames + 1) n to what

    lines : seen_bodies n (length p.frames + 1) es ≡ seen_bodies n (length (frames_with p.frames (f ∷ []))) es
        → p.lines ++ numbered event (line ++ seen_bodies n (length p.frames + 1) es) ≡ (p.lines ++ numbered event (line ++ [])) ++ numbered event (seen_bodies n (length (frames_with p.frames (f ∷ []))) es)
    lines same = lines_next n event p.lines line (length p.frames + 1) (frames_with p.frames (f ∷ [])) es same
        ∙ ap (λ bs. (p.lines ++ numbered event bs) ++ numbered event (seen_bodies n (length (frames_with p.frames (f ∷ []))) es)) (sym (append-nil line))

    either : (a b : Bool) → (a || true) ≡ ((a || true) || b)
    either true b = refl
    either false b = refl

    shifted : (a b c d : Bool) → b ≡ d → c ≡ false → (a || b) ≡ ((a || c) || d)
    shifted true b c d same none = refl
    shifted false b c d same none = same ∙ ap (λ x. x || d) (sym none)

    by : (b : Bool) → nat_lt (length p.frames) most_frames ≡ b →
        put_seen n event (Sent to what m ∷ es) p ≡ put_seen n event es (put_seen n event (Sent to what m ∷ []) p)
    by true h = λ i. record { frames = frames i; lines = lines (ap (λ k. seen_bodies n k es) longer) i; full = full i }
      where
        room : length p.frames < most_frames
        room = grind (arith, h)

        after : frames_with p.frames (f ∷ []) ≡ p.frames ++ f ∷ []
        after = one_fits p.frames f room

        longer : length p.frames + 1 ≡ length (frames_with p.frames (f ∷ []))
        longer = sym (ap length after ∙ length-append p.frames (f ∷ []))

        frames : frames_with p.frames (f ∷ seen_frames n es) ≡ frames_with (frames_with p.frames (f ∷ [])) (seen_frames n es)
        frames = one_more p.frames f (seen_frames n es) room ∙ ap (λ fs. frames_with fs (seen_frames n es)) (sym after)

        later : nat_lt most_frames (length p.frames + suc (length (seen_frames n es))) ≡ nat_lt most_frames (length (frames_with p.frames (f ∷ [])) + length (seen_frames n es))
        later = ap (nat_lt most_frames) (omega (arith, longer))

        one_more_fits : nat_lt most_frames (length p.frames + 1) ≡ false
        one_more_fits = grind (arith, room)

        full : (p.full || overflows p.frames (f ∷ seen_frames n es)) ≡ ((p.full || overflows p.frames (f ∷ [])) || overflows (frames_with p.frames (f ∷ [])) (seen_frames n es))
        full = shifted p.full (overflows p.frames (f ∷ seen_frames n es)) (overflows p.frames (f ∷ [])) (overflows (frames_with p.frames (f ∷ [])) (seen_frames n es)) later one_more_fits
    by false h = λ i. record {
      frames = frames i;
      lines =
          lines (past n (length p.frames) es none ∙ ap (λ fs. seen_bodies n (length fs) es) (sym stays)) i;
      full = full i;
    }
      where
        none : most_frames ≤ length p.frames
        none = grind (arith, h)

        stays : frames_with p.frames (f ∷ []) ≡ p.frames
        stays = one_is_lost p.frames f [] none

        frames : frames_with p.frames (f ∷ seen_frames n es) ≡ frames_with (frames_with p.frames (f ∷ [])) (seen_frames n es)
        frames = one_is_lost p.frames f (seen_frames n es) none ∙ sym (ap (λ fs. frames_with fs (seen_frames n es)) stays ∙ all_are_lost p.frames (seen_frames n es) none)

        first : overflows p.frames (f ∷ seen_frames n es) ≡ true
        first = grind (arith, none)

        second : overflows p.frames (f ∷ []) ≡ true
        second = grind (arith, none)

        full : (p.full || overflows p.frames (f ∷ seen_frames n es)) ≡ ((p.full || overflows p.frames (f ∷ [])) || overflows (frames_with p.frames (f ∷ [])) (seen_frames n es))
        full = ap (λ b. p.full || b) first ∙ either p.full (overflows (frames_with p.frames (f ∷ [])) (seen_frames n es)) ∙ ap (λ b. (p.full || b) || overflows (frames_with p.frames (f ∷ [])) (seen_frames n es)) (sym second)

-- a wire's frames are few
pub few_shown : (w : Wire) (journal : List Line) → AreFew w.net → length (shown w journal).frames ≤ most_frames
few_shown w journal few = omega (arith, few, length-map w.net frame_of)

-- the next thing that is put out
pub put_on : (n event : ℕ) (e : Output) (es : List Output) (w : Wire) (journal : List Line) (q : Put) → AreFew w.net
    → q ≡ put_seen n event (seen_of e ∷ []) (shown w journal) →
    put_seen n event (map seen_of (e ∷ es)) (shown w journal) ≡ put_seen n event (map seen_of es) q
put_on n event e es w journal q few is =
    put_next n event (seen_of e) (map seen_of es) (shown w journal) (few_shown w journal few) ∙ ap (put_seen n event (map seen_of es)) (sym is)

-- all is put
pub put_all : (n event : ℕ) (w : Wire) (journal : List Line) → AreFew w.net → put_seen n event [] (shown w journal) ≡ shown w journal
put_all n event w journal few = put_none n event (shown w journal) (few_shown w journal few)
