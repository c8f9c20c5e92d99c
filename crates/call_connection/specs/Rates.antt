-- What a connection is opened with, as the code has it: the second bucket and its flag.
use Rattle.meaning.specs.Words.{Second, second_of}
use Rattle.call_connection.specs.declared.Second as code

abbrev pub second_in : code.Second → Second
second_in x = second_of x.m x.f x.c x.tag
