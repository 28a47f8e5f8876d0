use Rattle.std.proofs.Common.{◌≡◌, ℕ, ◌-◌, ◌/◌, ◌%◌, ◌^◌, ◌<◌, ◌≤◌, Some, Ok, ap, arith, rules}
use Rattle.opentype.proofs.Sums.{row_sum, always_fits, sum_row}
use Rattle.digest.proofs.set_digest.Shift.with_span.Goals as goal

-- the number that the code makes of the two bits is the row's sum
pub returns : goal.returns
returns c =
    let x : ℕ = c.args.start / 2 ^ c.args.self.by in
    let y : ℕ = c.args.end / 2 ^ c.args.self.by in
    let o : x ≤ y = omega arith in
    let d : y - x < 63 = omega arith in
    let summed : c.checked_add.result ≡ Some c.in_ok-sum.sum = search rules in
    let e = (rw summed at c.checked_add.ensures).1 in
    let made : c.in_ok-sum.sum - c.from.result ≡ row_sum (x % 64) (y % 64) = cc in
    record { value = rw (made, always_fits c.args.self.by c.args.start c.args.end) (ap Ok (sum_row x y o d c.args.mask)) }
