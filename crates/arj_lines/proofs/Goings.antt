-- How reading goes on, feed after feed, and how it ends.
use Rattle.std.proofs.Common.{◌≡◌, inl, inr, ℕ, ◌+◌, ◌-◌, ◌*◌, ◌≤◌, ◌<◌, List, [], ◌∷◌, ◌++◌, length, length-append, length-drop, take}
use Rattle.std.proofs.Common.{drop, Option, Some, None, true, false, refl, sym, ◌∙◌, ap, subst, arith, append_assoc}
use Rattle.std.specs.Prelude.{◌==◌, ◌↔◌, IfSome, if◌then◌else◌}
use Rattle.std.proofs.lemmas.List.{append-nil, take-append-drop, length-take-le}
use Rattle.std.proofs.lemmas.Bool.{eqb-true}
use Rattle.arj_base.specs.Count.{Rose}
use Rattle.arj_io.specs.Told.{Gives}
use Rattle.arj_lines.specs.Going.{IsGoing, StopsAt, budget}
use Rattle.arj_lines.specs.Reading.{EndsSo, Gave, IsPastLine, ReadsUpTo, input}
use Rattle.arj_lines.specs.declared.ending.Ending.{Ending}
use Rattle.arj_lines.specs.declared.ending.Ending.TheVariants as ending
use Rattle.arj_lines.specs.declared.taker.Taker.{Ghosts}
use Rattle.arj_loop.proofs.Cuts.{lines_last, lines_none}
use Rattle.arj_loop.specs.Input.{SourceView}
use Rattle.arj_script.proofs.Feeds.{fed_line, fed_long, fed_none}
use Rattle.arj_script.specs.Cutting.{InHand, Takes, in_hand}
use Rattle.arj_script.specs.Input.{AtEnd, AtFault, AtRunEnd, ended_from, ended_lines, lines_of, rest_from, rest_line}
use Rattle.arj_script.specs.declared.cutter.Full.TheVariants as full

-- a line that doesn't end grows by what is fed
fed_grows : (line bytes : List ℕ) → ended_from line bytes ≡ [] → length (rest_from line bytes) ≡ length line + length bytes
fed_grows line [] none = omega arith
fed_grows line (b ∷ bytes) none =
    elim (b == 10) as (λ t. (if t then line ∷ ended_from [] bytes else ended_from (line ++ b ∷ []) bytes) ≡ [] →
    length (if t then rest_from [] bytes else rest_from (line ++ b ∷ []) bytes) ≡ length line + length (b ∷ bytes)) [
      | true ↦ (λ e. absurd (let never : line ∷ ended_from [] bytes ≡ [] = e in cc))
      | false ↦ (λ e. omega (arith, fed_grows (line ++ b ∷ []) bytes e, length-append line (b ∷ [])))
    ] none

-- the line in hand goes on
pub going_on : {T F : Type 0} (t : Ghosts T F) (used bytes : List ℕ) (cutter after : InHand) (taker : T) →
    Takes cutter.most cutter.line bytes full.No after.line → after.most ≡ cutter.most
    → IsGoing t used cutter taker → IsGoing t (used ++ bytes) after taker
going_on t used bytes cutter after taker takes same g =
    let fed = fed_none cutter.most used cutter.line bytes after.line g.in_hand takes in
    record {
      stands = subst (λ ls. t.stands ls taker) (sym fed.0) g.stands;
      in_hand = fed.1;
      room = same ∙ g.room;
      short = omega (arith, same, takes.2);
      small = omega (arith, same, g.small);
    }

pub less_on : {T F : Type 0} (t : Ghosts T F) (used bytes : List ℕ) (cutter after : InHand) (taker : T) →
    Takes cutter.most cutter.line bytes full.No after.line → 0 < length bytes
    → IsGoing t used cutter taker → budget t after taker < budget t cutter taker
less_on t used bytes cutter after taker takes some g =
    omega (arith, fed_grows cutter.line bytes takes.0, ap length takes.1, takes.2, some, g.small)

-- it ends, and was taken
pub going_line : {T F : Type 0} (t : Ghosts T F) (used bytes line : List ℕ) (cutter after : InHand) (taker next : T) →
    Takes cutter.most cutter.line bytes full.Line line → IsGoing t used cutter taker
    → t.stands (ended_lines used ++ line ∷ []) next → after ≡ in_hand (t.most next) [] → t.most next < 4294967296 →
    IsGoing t (used ++ bytes) after next
going_line t used bytes line cutter after taker next takes g stands is small =
    let fed = fed_line cutter.most used cutter.line bytes line g.in_hand takes in
    record {
      stands = subst (λ ls. t.stands ls next) (sym fed.0) stands;
      in_hand = ap (λ c. c.line) is ∙ sym fed.1;
      room = ap (λ c. c.most) is;
      short = omega (arith, ap (λ c. length c.line) is);
      small = omega (arith, ap (λ c. c.most) is, small);
    }

pub less_line : {T F : Type 0} (t : Ghosts T F) (used : List ℕ) (cutter after : InHand) (taker next : T) → IsGoing t used cutter taker →
    t.room next < t.room taker → after ≡ in_hand (t.most next) []
    → budget t after next < budget t cutter taker
less_line t used cutter after taker next g fewer is = omega (arith, fewer, ap (λ c. length c.line) is, g.short, g.small)

few_past : (bytes : List ℕ) (n : ℕ) → 0 < n → n ≤ length bytes → length bytes ≤ 512 → length (drop n bytes) < 512
few_past bytes n some within few = omega (arith, length-drop n bytes, some, within, few)

-- the first bytes, then the rest
whole_of : (used bytes : List ℕ) (n : ℕ) → used ++ bytes ≡ (used ++ take n bytes) ++ drop n bytes
whole_of used bytes n = ap (λ bs. used ++ bs) (sym (take-append-drop n bytes)) ∙ sym (append_assoc used (take n bytes) (drop n bytes))

-- it is too long
pub ended_long : {T F : Type 0} (t : Ghosts T F) (used bytes line : List ℕ) (n : ℕ) (cutter : InHand) (taker : T) →
    Takes cutter.most cutter.line (take n bytes) full.Long line → 0 < n → n ≤ length bytes → length bytes ≤ 512
    → IsGoing t used cutter taker → EndsSo t (input (used ++ bytes) AtRunEnd) taker ending.TooLong
ended_long t used bytes line n cutter taker takes some within few g =
    let fed = fed_long cutter.most used cutter.line (take n bytes) line g.in_hand takes in
    (ended_lines used, g.stands, (refl, (used ++ take n bytes, fed.0, fed.1 ∙ ap (λ m. m + 1) g.room, (drop n bytes, whole_of used bytes n, few_past bytes n some within few))))

-- the taker took it no more
pub ended_line : {T F : Type 0} (t : Ghosts T F) (used bytes line : List ℕ) (n : ℕ) (cutter : InHand) (taker next : T) (end : Ending F) →
    Takes cutter.most cutter.line (take n bytes) full.Line line → 0 < n → n ≤ length bytes → length bytes ≤ 512
    → IsGoing t used cutter taker → StopsAt t (ended_lines used) line end next → EndsSo t (input (used ++ bytes) AtRunEnd) next end
ended_line t used bytes line n cutter taker next (ending.Stopped why) takes some within few g stops =
    let fed = fed_line cutter.most used cutter.line (take n bytes) line g.in_hand takes in
    (ended_lines used, line, stops, inl (refl, (used ++ take n bytes, fed.0, fed.1, (drop n bytes, whole_of used bytes n, few_past bytes n some within few))))
ended_line t used bytes line n cutter taker next ending.Memory takes some within few g stops = tt
ended_line t used bytes line n cutter taker next ending.End takes some within few g stops = absurd stops
ended_line t used bytes line n cutter taker next ending.Fault takes some within few g stops = absurd stops
ended_line t used bytes line n cutter taker next ending.TooLong takes some within few g stops = absurd stops

-- before the first byte
pub going_first : {T F : Type 0} (t : Ghosts T F) (cutter : InHand) (taker : T) (most : ℕ) → cutter ≡ in_hand most [] →
    most ≡ t.most taker → most < 4294967296 → t.stands [] taker → IsGoing t [] cutter taker
going_first t cutter taker most is same small stands = record {
  stands = stands;
  in_hand = ap (λ c. c.line) is;
  room = ap (λ c. c.most) is ∙ same;
  short = omega (arith, ap (λ c. length c.line) is);
  small = omega (arith, ap (λ c. c.most) is, small);
}

-- what came, where reading ended before the input's end and no read failed
pub gave_some : (before after : SourceView) (bytes : List ℕ) → Gives before.left bytes after.left → after.faults ≡ before.faults →
    Gave before after (input bytes AtRunEnd)
gave_some before after bytes gives same = record {
  gives = gives;
  at_end = λ e. absurd (let never : AtRunEnd ≡ AtEnd = e in cc);
  at_fault = λ e. absurd (let never : AtRunEnd ≡ AtFault = e in cc);
  no_fault = λ _. same;
}

-- the input is at its end
end_left : (before was now : Option (List ℕ)) (came buf : List ℕ) → Gives before came was → Gives was (take 0 buf) now →
    IfSome was (λ bytes. (◌≡◌ {A = ℕ} 0 0) ↔ (bytes ≡ [])) → IfSome before (λ _. IfSome now (λ rest. rest ≡ [])) × Gives before came now
end_left None was now came buf gives moved end = (tt, tt)
end_left (Some b) None now came buf gives moved end = absurd gives
end_left (Some b) (Some w) None came buf gives moved end = absurd moved
end_left (Some b) (Some w) (Some n) came buf gives moved end =
    let none : w ≡ [] = end.0 refl in
    let same : n ≡ w = sym moved in
    (same ∙ none, gives ∙ ap (λ r. came ++ r) moved)

pub gave_end : (before was now : SourceView) (came buf : List ℕ) (count : ℕ) → count ≡ 0 → Gives before.left came was.left →
    Gives was.left (take count buf) now.left → IfSome was.left (λ bytes. (count ≡ 0) ↔ (bytes ≡ [])) → now.faults ≡ before.faults
    → Gave before now (input came AtEnd)
gave_end before was now came buf count none gives moved end faults =
    let at = end_left before.left was.left now.left came buf gives (subst (λ n. Gives was.left (take n buf) now.left) none moved) (subst (λ n. IfSome was.left (λ bytes. (n ≡ 0) ↔ (bytes ≡ []))) none end) in
    record {
      gives = at.1;
      at_end = λ _. at.0;
      at_fault = λ e. absurd (let never : AtEnd ≡ AtFault = e in cc);
      no_fault = λ _. faults;
    }

-- or a read failed
pub gave_fault : (before mid after : SourceView) (bytes : List ℕ) → Gives before.left bytes mid.left → after.left ≡ mid.left →
    mid.faults ≡ before.faults → Rose mid.faults after.faults → Gave before after (input bytes AtFault)
gave_fault before mid after bytes gives kept same rose = record {
  gives = subst (λ l. Gives before.left bytes l) (sym kept) gives;
  at_end = λ e. absurd (let never : AtFault ≡ AtEnd = e in cc);
  at_fault = λ _. subst (λ n. Rose n after.faults) same rose;
  no_fault = λ no. absurd (no refl);
}
