mod Escaped
