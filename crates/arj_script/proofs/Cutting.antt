-- What a cutter takes, and that cuts leave the lines.
use Rattle.std.proofs.Common.{◌≡◌, ℕ, ◌+◌, ◌≤◌, ◌<◌, List, [], ◌∷◌, ◌++◌, length, length-append, take, get_or, true, false, refl, sym, ◌∙◌}
use Rattle.std.proofs.Common.{ap, subst, arith, append_assoc}
use Rattle.std.specs.Prelude.{◌==◌, nat_lt, if◌then◌else◌}
use Rattle.std.proofs.lemmas.List.{append-nil, take_all, take_more, length-take-le}
use Rattle.std.proofs.lemmas.List.Folds.{list_any-append}
use Rattle.std.proofs.lemmas.Bool.{or_from, le-ltb, lt-ltb}
use Rattle.std.proofs.Math.Seq.{take-length, take-append_seam}
use Rattle.arj_script.specs.declared.cutter.Full.{Full}
use Rattle.arj_script.specs.declared.cutter.Full.TheVariants as full
use Rattle.arj_script.specs.declared.cutter.Fed.{Fed}
use Rattle.arj_script.specs.Cutting.{Takes, Feeds, Took, Cut, Along, GoesOn, bytes_of}
use Rattle.arj_script.specs.Input.{ended_from, rest_from}
use Rattle.arj_script.proofs.Lines.{HasNoEnd, ended_from-line, rest_from-line, ended_from-piece, rest_from-piece}

-- bytes more behind others
pub ended_from-append : (front bytes more : List ℕ) →
    ended_from front (bytes ++ more) ≡ ended_from front bytes ++ ended_from (rest_from front bytes) more
ended_from-append front [] more = refl
ended_from-append front (b ∷ bytes) more =
    let cut = ended_from-append [] bytes more in
    let on = ended_from-append (front ++ b ∷ []) bytes more in
    elim (b == 10) as (λ t. (if t then front ∷ ended_from [] (bytes ++ more) else ended_from (front ++ b ∷ []) (bytes ++ more)) ≡ (if t then front ∷ ended_from [] bytes else ended_from (front ++ b ∷ []) bytes) ++ ended_from (if t then rest_from [] bytes else rest_from (front ++ b ∷ []) bytes) more)
    [ true ↦ ap (λ lines. front ∷ lines) cut | false ↦ on ]

pub rest_from-append : (front bytes more : List ℕ) → rest_from front (bytes ++ more) ≡ rest_from (rest_from front bytes) more
rest_from-append front [] more = refl
rest_from-append front (b ∷ bytes) more =
    let cut = rest_from-append [] bytes more in
    let on = rest_from-append (front ++ b ∷ []) bytes more in
    elim (b == 10) as (λ t. (if t then rest_from [] (bytes ++ more) else rest_from (front ++ b ∷ []) (bytes ++ more)) ≡ rest_from (if t then rest_from [] bytes else rest_from (front ++ b ∷ []) bytes) more)
    [ true ↦ cut | false ↦ on ]

-- the byte in hand ends the line
pub takes_line : (most : ℕ) (line piece : List ℕ) (at d : ℕ) → at < length piece → get_or piece at d ≡ 10 → HasNoEnd (take at piece) →
    length (line ++ take at piece) ≤ most → Takes most line (take (at + 1) piece) full.Line (line ++ take at piece)
takes_line most line piece at d within feed none short =
    let front : take (at + 1) piece ≡ take at piece ++ 10 ∷ [] = take_more piece at d within ∙ ap (λ b. take at piece ++ b ∷ []) feed in
    (ap (λ bs. ended_from line bs) front ∙ ended_from-line line (take at piece) [] none, ap (λ bs. rest_from line bs) front ∙ rest_from-line line (take at piece) [] none, short)

-- or it is one too many
pub takes_long : (most : ℕ) (line piece : List ℕ) (at d : ℕ) → at < length piece → (get_or piece at d == 10) ≡ false →
    HasNoEnd (take at piece) → length (line ++ take at piece) ≡ most → Takes most line (take (at + 1) piece) full.Long (line ++ take at piece)
takes_long most line piece at d within other none size =
    let b = get_or piece at d in
    let front : take (at + 1) piece ≡ take at piece ++ b ∷ [] = take_more piece at d within in
    let h : HasNoEnd (take at piece ++ b ∷ []) =
    list_any-append (λ c. c == 10) (take at piece) (b ∷ []) ∙ or_from _ _ none (or_from (b == 10) false other refl) in
    let rest : rest_from line (take (at + 1) piece) ≡ (line ++ take at piece) ++ b ∷ [] =
    ap (λ bs. rest_from line bs) front ∙ (rest_from-piece line (take at piece ++ b ∷ []) h ∙ sym (append_assoc line (take at piece) (b ∷ []))) in (
      ap (λ bs. ended_from line bs) front ∙ ended_from-piece line (take at piece ++ b ∷ []) h,
      ap (λ bs. take most bs) rest ∙ (ap (λ n. take n ((line ++ take at piece) ++ b ∷ [])) (sym size) ∙ take-append_seam (line ++ take at piece) (b ∷ [])),
      ap length rest ∙ (length-append (line ++ take at piece) (b ∷ []) ∙ ap (λ n. n + 1) size),
    )

-- or no line ends
pub takes_all : (most : ℕ) (line piece : List ℕ) → HasNoEnd piece → length (line ++ piece) ≤ most →
    Takes most line piece full.No (line ++ piece)
takes_all most line piece none short = (ended_from-piece line piece none, rest_from-piece line piece none, short)

-- what the feeds of a stream give is what its bytes say
abbrev pub cut_of : ℕ → List ℕ → List ℕ → Cut
cut_of most line bytes =
    record { lines = ended_from line bytes; rest = take most (rest_from line bytes); long = nat_lt most (length (rest_from line bytes)) }

cut_on : (most : ℕ) (full : Full) (line bytes after : List ℕ) (ts : List Took) (on : List ℕ → Cut → Type 0) (cut : Cut) →
    Takes most line bytes full after → GoesOn full after ts on cut
    → ((l : List ℕ) (c : Cut) → length l ≤ most → on l c → c ≡ cut_of most l (bytes_of ts)) → cut ≡ cut_of most line (bytes ++ bytes_of ts)
cut_on most full.No line bytes after ts on cut takes goes next =
    let m = bytes_of ts in
    let lines : ended_from line (bytes ++ m) ≡ ended_from after m =
    ended_from-append line bytes m ∙ (λ i. takes.0 i ++ ended_from (takes.1 i) m) in
    let rest : rest_from line (bytes ++ m) ≡ rest_from after m = rest_from-append line bytes m ∙ ap (λ l. rest_from l m) takes.1 in
    next after cut takes.2 goes ∙ sym (λ i. record { lines = lines i; rest = take most (rest i); long = nat_lt most (length (rest i)) })
cut_on most full.Line line bytes after ts on cut takes goes next =
    let m = bytes_of ts in
    let lines : ended_from line (bytes ++ m) ≡ after ∷ ended_from [] m =
    ended_from-append line bytes m ∙ (λ i. takes.0 i ++ ended_from (takes.1 i) m) in
    let rest : rest_from line (bytes ++ m) ≡ rest_from [] m = rest_from-append line bytes m ∙ ap (λ l. rest_from l m) takes.1 in
    let more = next [] goes.0 (omega arith) goes.2 in
    goes.1 ∙ ((λ i. record { lines = after ∷ (more i).lines; rest = (more i).rest; long = (more i).long }) ∙ sym (λ i. record {
      lines =
          lines i;
      rest = take most (rest i);
      long = nat_lt most (length (rest i));
    }))
cut_on most full.Long line bytes after ts on cut takes goes next =
    let whole : bytes ++ bytes_of ts ≡ bytes = ap (λ us. bytes ++ bytes_of us) goes.0 ∙ append-nil bytes in
    let long : nat_lt most (length (rest_from line bytes)) ≡ true =
    ap (λ n. nat_lt most n) takes.2 ∙ lt-ltb most (most + 1) (omega arith) in
    goes.1 ∙ sym ((λ i. cut_of most line (whole i)) ∙ (λ i. record { lines = takes.0 i; rest = takes.1 i; long = long i }))

pub cut_is : (most : ℕ) (line : List ℕ) (ts : List Took) (cut : Cut) → length line ≤ most → Along most line ts cut →
    cut ≡ cut_of most line (bytes_of ts)
cut_is most line [] cut short h =
    h ∙ sym (λ i. record { lines = []; rest = take_all most line short i; long = le-ltb most (length line) short i })
cut_is most line (t ∷ ts) cut short h =
    cut_on most t.full line t.bytes h.0 ts (λ l c. Along most l ts c) cut h.1 h.2 (λ l c few on. cut_is most l ts c few on)

-- the same, of a room whose front is the line in hand
pub feeds_line : (most : ℕ) (line piece room : List ℕ) (at count d : ℕ) (fed : Fed) → fed ≡ record { used = at + 1; full = full.Line } →
    take count room ≡ line ++ take at piece → length room ≡ most → count ≤ most
    → at < length piece → get_or piece at d ≡ 10 → HasNoEnd (take at piece) → Feeds most line piece fed (take count room)
feeds_line most line piece room at count d fed f is size few within feed none =
    let short : length (line ++ take at piece) ≤ most =
    omega (arith, ap length is, length-take-le count room (omega (arith, size, few)), few) in
    subst (λ after. Feeds most line piece fed after) (sym is) (subst (λ g. Feeds most line piece g (line ++ take at piece)) (sym f)
    (record { taken = omega arith; takes = takes_line most line piece at d within feed none short }))

pub feeds_long : (most : ℕ) (line piece room : List ℕ) (at count d : ℕ) (fed : Fed) → fed ≡ record { used = at + 1; full = full.Long } →
    take count room ≡ line ++ take at piece → length room ≡ most → count ≡ most
    → at < length piece → (get_or piece at d == 10) ≡ false → HasNoEnd (take at piece) → Feeds most line piece fed (take count room)
feeds_long most line piece room at count d fed f is size all within other none =
    let whole : length (line ++ take at piece) ≡ most =
    omega (arith, ap length is, length-take-le count room (omega (arith, size, all)), all) in
    subst (λ after. Feeds most line piece fed after) (sym is) (subst (λ g. Feeds most line piece g (line ++ take at piece)) (sym f)
    (record { taken = omega arith; takes = takes_long most line piece at d within other none whole }))

pub feeds_all : (most : ℕ) (line piece room : List ℕ) (at count : ℕ) → take count room ≡ line ++ take at piece → length room ≡ most →
    count ≤ most → at ≡ length piece → HasNoEnd (take at piece)
    → Feeds most line piece (record { used = length piece; full = full.No }) (take count room)
feeds_all most line piece room at count is size few end none =
    let front : take at piece ≡ piece = ap (λ n. take n piece) end ∙ take-length piece in
    let now : take count room ≡ line ++ piece = is ∙ ap (λ bs. line ++ bs) front in
    let short : length (line ++ piece) ≤ most = omega (arith, ap length now, length-take-le count room (omega (arith, size, few)), few) in
    subst (λ after. Feeds most line piece (record { used = length piece; full = full.No }) after) (sym now)
    (record {
      taken = refl;
      takes =
          subst (λ bs. Takes most line bs full.No (line ++ piece)) (sym (take-length piece)) (takes_all most line piece (subst HasNoEnd front none) short);
    })
