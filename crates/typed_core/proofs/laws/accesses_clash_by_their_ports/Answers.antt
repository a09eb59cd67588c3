use Rattle.typed_core.proofs.ClashLaws.{other_register, read_after_read, read_after_write, write_after_read, write_after_write}
use Rattle.typed_core.proofs.laws.accesses_clash_by_their_ports.Goals as goal

pub returns : goal.returns
returns c = record {
  read_after_write = read_after_write;
  write_after_read = write_after_read;
  write_after_write = write_after_write;
  read_after_read = read_after_read;
  other_register = other_register;
}
