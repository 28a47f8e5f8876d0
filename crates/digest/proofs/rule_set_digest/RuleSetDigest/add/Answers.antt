use Rattle.std.proofs.Common.{◌≡◌, ℕ, ◌%◌, ◌^◌}
use lib.Bits.{bit_or}
use Rattle.opentype.proofs.Bits.{or_has_l, set_bit, set_has}
use Rattle.digest.proofs.rule_set_digest.RuleSetDigest.add.Goals as goal

pub returns : goal.returns
returns c =
    let w : ℕ = c.args.self.now.word in
    let v : ℕ = c.args.value % 64 in
    let made : bit_or w c.bit_of.result ≡ bit_or w (2 ^ v) = cc in
    record {
      value = made;
      added = rw made (set_has w v);
      kept = λ j h. rw made (or_has_l w (2 ^ v) j h);
      bits = λ j. rw made (set_bit w v j);
    }
