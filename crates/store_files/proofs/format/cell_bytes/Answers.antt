-- Four bytes are one number.
use Rattle.store_files.proofs.Overwriting.{one_number}
use Rattle.store_files.proofs.format.cell_bytes.Goals as goal

pub returns : goal.returns
returns c = λ m there. rw c.to_be_bytes.ensures (one_number m c.args.place c.args.value there)
