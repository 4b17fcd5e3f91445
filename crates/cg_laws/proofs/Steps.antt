-- The laws of a step, from soundness alone, and what an induction over steps needs beside them.

-- every step keeps a tree sound
pub use Rattle.cg_laws.proofs.Sound.{sound-formed, sound-after}
-- anyone's step that leaves the subtree there with its limits, and carries out no chmod of a guarded entry, touches none of
-- these, and leaves the guards against any user
pub use Rattle.cg_laws.proofs.Untouched.{untouched-unopened}
pub use Rattle.cg_laws.proofs.Kept.{hold-unopened, kept-after, untouched-guarded}
-- what a step of a user against whom the guards hold leaves; it touches no guarded entry either
-- the guards against any user hold again where the guarded entries are untouched and the counts fit
pub use Rattle.cg_laws.proofs.GuardedEntries.{hold-untouched}
