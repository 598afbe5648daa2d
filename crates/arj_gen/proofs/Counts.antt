-- The draws that wrap, and accounts and transfers one by one.
use Rattle.std.proofs.Common.{◌≡◌, ◌≤◌, ℕ, zero, suc, length, length-append, codes, ◌+◌, ◌*◌, ◌%◌, List, [], ◌∷◌, ◌++◌, refl, ap, true}
use Rattle.std.proofs.Common.{arith}
use Rattle.std.proofs.Math.Nat.{mod-add-mod}
use Rattle.std.proofs.Math.Numerals.{add-one}
use Rattle.arj_gen.specs.Bank.{account_line, accounts, bank_header, behind_four, crashes, event_lines, giving, lines_of_first, loses}
use Rattle.arj_gen.specs.Bank.{next_state, state_behind, transfer_from, transfer_lines}
use Rattle.arj_gen.specs.declared.bank.TheConstants.{EVENTS}
use Rattle.arj_journal.specs.ScriptForm.{HeaderInForm, ObjectLineInForm}
use Rattle.arj_text.specs.Fields.{are_nodes}

pub wraps : (s : ℕ) → ((s * 6364136223846793005) % 18446744073709551616 + 1442695040888963407) % 18446744073709551616 ≡ next_state s
wraps s = mod-add-mod (s * 6364136223846793005) 18446744073709551616 1442695040888963407

pub accounts_more : (k : ℕ) → accounts (k + 1) ≡ accounts k ++ account_line (k + 1) ∷ []
accounts_more k = ap accounts (add-one k)

pub lines_more : (n k : ℕ) → lines_of_first n (k + 1) ≡ lines_of_first n k ++ transfer_lines (k + 1) (transfer_from (state_behind n k))
lines_more n k = ap (lines_of_first n) (add-one k)

pub state_more : (n k : ℕ) → state_behind n (k + 1) ≡ behind_four (state_behind n k)
state_more n k = ap (state_behind n) (add-one k)

-- how many lines the first transfers have
abbrev pub lines_of : ℕ → ℕ
lines_of zero = 0
lines_of (suc k) = lines_of k + (8 + (length (loses (k + 1)) + length (crashes (k + 1))))

lines_counted : (n k : ℕ) → length (lines_of_first n k) ≡ lines_of k
lines_counted n zero = refl
lines_counted n (suc k) =
    let t = transfer_from (state_behind n k) in
    let before = lines_counted n k in
    let more = length-append (lines_of_first n k) (transfer_lines (k + 1) t) in
    let own = length-append (loses (k + 1)) (giving (k + 1) t ++ crashes (k + 1)) in
    omega (arith, before, more, own)

-- the script has so many lines
pub all_counted : (n : ℕ) → length (event_lines n) ≡ EVENTS
all_counted n =
    let before = lines_counted n 200 in
    let more = length-append (lines_of_first n 200) (codes "quiesce" ∷ []) in
    let all : lines_of 200 ≡ 1626 = refl in
    omega (arith, before, more, all)

fit : (x : ℕ) → 1 ≤ x → x ≤ 256 → (let o = account_line x in are_nodes 5 4 o.servers) ≡ true →
    (let o = account_line x in are_nodes 5 16 o.stores) ≡ true → ObjectLineInForm 5 (account_line x)
fit x least most servers stores = record { number = (least, most); value = omega arith; servers = servers; stores = stores }

pub bank_fits : HeaderInForm bank_header
bank_fits = record {
  nodes = (omega arith, omega arith);
  objects = ((fit 1 (omega arith) (omega arith) refl refl, (fit 2 (omega arith) (omega arith) refl refl, (fit 3 (omega arith) (omega arith) refl refl, (fit 4 (omega arith) (omega arith) refl refl, (fit 5 (omega arith) (omega arith) refl refl, (fit 6 (omega arith) (omega arith) refl refl, (fit 7 (omega arith) (omega arith) refl refl, (fit 8 (omega arith) (omega arith) refl refl, (fit 9 (omega arith) (omega arith) refl refl, (fit 10 (omega arith) (omega arith) refl refl, (fit 11 (omega arith) (omega arith) refl refl, (fit 12 (omega arith) (omega arith) refl refl, (fit 13 (omega arith) (omega arith) refl refl, (fit 14 (omega arith) (omega arith) refl refl, (fit 15 (omega arith) (omega arith) refl refl, (fit 16 (omega arith) (omega arith) refl refl, (fit 17 (omega arith) (omega arith) refl refl, (fit 18 (omega arith) (omega arith) refl refl, (fit 19 (omega arith) (omega arith) refl refl, (fit 20 (omega arith) (omega arith) refl refl, tt)))))))))))))))))))), refl);
  held = (tt, (tt, (tt, (tt, (tt, (tt, (tt, (tt, (tt, (tt, (tt, (tt, (tt, (tt, (tt, (tt, (tt, (tt, (tt, (tt, tt))))))))))))))))))));
}
