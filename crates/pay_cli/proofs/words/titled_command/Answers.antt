use Rattle.pay_cli.proofs.words.titled_command.Goals as goal

pub returns : goal.returns
returns c = record {
  app = rw (c.after_help.ensures, c.about.ensures) c.new.ensures.app;
  globals = rw (c.after_help.ensures, c.about.ensures) c.new.ensures.local;
}
