-- The lines before events, by their places.
use Rattle.std.proofs.Common.{◌≡◌, ℕ, List, refl, ap, arith}
use Rattle.std.specs.Prelude.{codes, get_or}
use Rattle.arj_journal.specs.declared.header.Header.{Header}
use Rattle.arj_script.specs.Grammar.{Asks, Blank, Form, FormatOne, HasForm, Nodes, Object, Objects, Place, Run, Running, Start, next_place}

-- a place behind `nodes`, in the header
abbrev pub IsHeader : Place → Type 0
IsHeader p = (h : Header) × (p ≡ Objects h)

-- the first byte of a text
abbrev first_byte : List ℕ → ℕ
first_byte bytes = get_or bytes 0 0

-- the line `nodes 1` begins a header
pub begins : (f : Form) → HasForm Start (codes "nodes 1") f → IsHeader (next_place Start f)
begins Blank has = let comment : 110 ≡ 35 = has.spells in absurd (omega (arith, comment))
begins (Nodes n) has = (_, refl)
begins (Asks e) has = absurd has.fits
begins FormatOne has = absurd has.fits
begins (Object o) has = absurd has.fits
begins Run has = absurd has.fits

-- the line `run` ends it
pub runs : (h : Header) (f : Form) → HasForm (Objects h) (codes "run") f → next_place (Objects h) f ≡ Running
runs h Run has = refl
runs h Blank has = let comment : 114 ≡ 35 = has.spells in absurd (omega (arith, comment))
runs h FormatOne has = let same : 114 ≡ 102 = ap first_byte has.spells in absurd (omega (arith, same))
runs h (Object o) has = let same : 114 ≡ 111 = ap first_byte has.spells in absurd (omega (arith, same))
runs h (Nodes n) has = absurd has.fits
runs h (Asks e) has = absurd has.fits
