use Rattle.std.proofs.Common.{◌≡◌, ℕ, ◌+◌, ◌-◌, length, take, drop, List, ◌++◌, arith, subst}
use Rattle.std.proofs.lemmas.Grind.{common_steps}
use Rattle.std.proofs.Math.Seq.{take-add}
use Rattle.std.proofs.KnownBytes.{Appends-trans}
use Rattle.std.specs.Io.KnownBytes.{Appends}
use Rattle.streams.proofs.write.write_whole.Goals as goal

-- the front that is written, and the next bytes of the rest
front_more : (n m : ℕ) (text : List ℕ) → take n text ++ take m (take (length text - n) (drop n text)) ≡ take (n + m) text
front_more n m text = grind (arith, common_steps, take-add n m text)

pub loop-written-preserved : goal.loop-written-preserved
loop-written-preserved g c = record {
  within = grind (arith, common_steps, c.in-Ok.ensures.bound);
  front =
      subst (Appends _ _) (front_more c.loop-written.written c.in-Ok.count c.args.text.now)
      (Appends-trans _ _ _ _ _ c.loop-written.invariant.front c.in-Ok.ensures.bytes);
}
